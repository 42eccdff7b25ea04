-- A message that a receiver takes by its calls: one load after another, each by the number of its batch, up to the first that isn't answered as loaded.
use Rattle.std.specs.Prelude.{ℕ, Bool, true, false, if◌then◌else◌, List, [], ◌∷◌, ◌++◌, None, Result, Ok, Err}
use Rattle.sds_types.specs.declared.config.Config.{Config}
use Rattle.sds_types.specs.declared.ack.Ack.{Ack}
use Rattle.sds_types.specs.declared.load_answer.LoadAnswer.{LoadAnswer}
use Rattle.sds_types.specs.declared.load_answer.LoadAnswer.TheVariants.{Loaded, Ignored, Again, Erred, Held}
use Rattle.sds_types.specs.declared.load_answer.PeerRefusal.{PeerRefusal}
use Rattle.sds_first_spec.specs.declared.batch.Sent.{Sent}
use Rattle.sds_first_spec.specs.Acts.{State, History}
use Rattle.sds_first_spec.specs.Calls.{load_answer_of, load_acts}
use Rattle.sds_first_spec.specs.History.{state_of}
use Rattle.sds_first_spec.specs.Lanes.{rows_at}

-- the answer says that the batch is loaded, now or before
abbrev pub is_loaded : Result LoadAnswer PeerRefusal → Bool
is_loaded (Ok (Loaded place)) = true
is_loaded (Ok (Ignored place)) = true
is_loaded (Ok Again) = true
is_loaded (Ok (Erred row rule)) = false
is_loaded (Ok (Held batch row rule)) = false
is_loaded (Err refusal) = false

-- what a load of a batch is answered
abbrev pub load_of : Config → List ℕ → ℕ → Sent → History → Result LoadAnswer PeerRefusal
load_of config sender channel sent h = load_answer_of config (state_of config h) sender channel sent.id sent.rows

-- the history behind a load
abbrev pub after_load : Config → List ℕ → ℕ → Sent → History → History
after_load config sender channel sent h =
    record { opening = h.opening; acts = load_acts (load_of config sender channel sent h) config sender channel sent.id sent.rows ++ h.acts }

-- the history behind the loads of a message
abbrev pub after_loads : Config → List ℕ → ℕ → List Sent → History → History
after_loads config sender channel [] h = h
after_loads config sender channel (sent ∷ sents) h =
    if is_loaded (load_of config sender channel sent h) then after_loads config sender channel sents (after_load config sender channel sent h)
    else after_load config sender channel sent h

-- what they are answered
abbrev pub loads_acks : Config → List ℕ → ℕ → List Sent → History → List Ack
loads_acks config sender channel [] h = []
loads_acks config sender channel (sent ∷ sents) h =
    if is_loaded (load_of config sender channel sent h) then record { batch = sent.id; error = None } ∷ loads_acks config sender channel sents (after_load config sender channel sent h)
    else []

-- the batch of a number, as a message carries it
abbrev pub sent_at : Config → State → ℕ → Sent
sent_at config s id = record { id = id; rows = rows_at config s id }
