-- What a scenario's text makes happen and prints, and the first line that it may not have.
-- A line is judged by what the lines before it say, the newest first, and by the world that these have made. Lines are built under the one configuration alone.
use Rattle.std.specs.Prelude.{◌≡◌, ◌≢◌, ℕ, ◌-◌, ◌≤◌, ◌^◌, ◌⊎◌, Bool, true, not, ◌&&◌, ◌==◌, nat_lt, is_some, if◌then◌else◌, List, [], ◌∷◌, length, map, take, Option, None, Some, Result, Ok, Err}
use Rattle.std.specs.List.{suffix_len}
use Rattle.std.specs.Option.{option_map_or}
use Rattle.sds_line.specs.declared.line.Line.{Line as TextLine}
use Rattle.sds_line.specs.Splitting.{Split, lines_in}
use Rattle.sds_outside.specs.Told.{after_told}
use Rattle.sds_first_spec.specs.declared.event.WorldEvent.{WorldEvent}
use Rattle.sds_first_spec.specs.Acts.{History}
use Rattle.sds_first_spec.specs.Happens.{happens}
use Rattle.sds_first_spec.specs.History.{state_of}
use Rattle.sds_first_spec.specs.Kept.{writer_in}
use Rattle.sds_first_spec.specs.One.{one}
use Rattle.sds_first_spec.specs.Screen.{screen_of}
use Rattle.sds_first_spec.specs.Settled.{kept_number, all_ok}
use Rattle.sds_first_spec.specs.World.{World, empty_world, history_of}
use Rattle.sds_first_world.specs.declared.line.Line.{Line}
use Rattle.sds_first_world.specs.declared.line.Line.TheVariants.{Write}
use Rattle.sds_first_world.specs.declared.rehearsal.BadLine.{BadLine}
use Rattle.sds_first_world.specs.declared.rehearsal.WorldRefusal.{WorldRefusal}
use Rattle.sds_first_world.specs.declared.rehearsal.WorldRefusal.TheVariants as world_refusal
use Rattle.sds_first_world.specs.Looking.{fits, completed, place_of, corp}
use Rattle.sds_first_world.specs.Scenario.{line_of}

-- TEXT. The most bytes of a scenario: 1 GiB.
abbrev pub most_bytes : ℕ
most_bytes = 2 ^ 30

abbrev pub is_long : List ℕ → Bool
is_long text = nat_lt most_bytes (length text)

-- up to the last line feed, and with it
abbrev pub through_last_feed : List ℕ → List ℕ
through_last_feed text = take (length text - suffix_len (λ b. not (b == 10)) text) text

-- what is looked at of a text: all of it, or, of one that is too long, what stands before the line that holds the first byte too many
abbrev pub looked_at : List ℕ → List ℕ
looked_at text = if is_long text then through_last_feed (take most_bytes text) else text

-- the lines of it that have fields, each with its number, and why it is not read on
abbrev pub split_of : List ℕ → Split
split_of text = lines_in (not (is_long text)) (looked_at text)

-- what a line says
abbrev pub said : TextLine → Line
said line = line_of line.fields

-- THE WORLD that lines have made
abbrev pub world_by : Option WorldEvent → World → World
world_by None w = w
world_by (Some event) w = happens one w event

abbrev pub world_of : List Line → World
world_of [] = empty_world
world_of (line ∷ older) = world_by (completed (place_of older) line) (world_of older)

-- what the head office says to a line: the number of its writer's last accepted write, and whether every batch is known to be loaded
abbrev pub last_of : World → List ℕ → ℕ
last_of w writer = option_map_or (λ (h : History). kept_number (writer_in writer (state_of one h).writers)) (history_of corp.id w.nodes) 0

abbrev pub last_in : World → Line → ℕ
last_in w (Write writer number) = last_of w writer
last_in w line = 0

abbrev pub settled_in : World → Bool
settled_in w = option_map_or (λ (h : History). all_ok (state_of one h).batches) (history_of corp.id w.nodes) true

abbrev pub may_stand : List Line → Line → Bool
may_stand older line = fits (place_of older) (last_in (world_of older) line) (settled_in (world_of older)) line

-- EVENTS, up to the first line that may not stand
abbrev pub onto_events : Option WorldEvent → List WorldEvent → List WorldEvent
onto_events None events = events
onto_events (Some event) events = event ∷ events

abbrev pub events_from : Bool → List Line → List Line → List WorldEvent
events_from is_built older [] = []
events_from is_built older (line ∷ lines) =
    if is_built && may_stand older line then onto_events (completed (place_of older) line) (events_from is_built (line ∷ older) lines) else []

abbrev pub events_of : Bool → List ℕ → List WorldEvent
events_of is_built text = events_from is_built [] (map said (split_of text).lines)

-- THE FIRST LINE that may not stand, and why: 1 where it is of no line's form, 4 for the end inside a write, 5 where it holds the first byte past 1 GiB, 6 where it isn't built
abbrev pub IsCause : ℕ → Type 0
IsCause cause = (cause ≡ 1) ⊎ ((cause ≡ 4) ⊎ ((cause ≡ 5) ⊎ (cause ≡ 6)))

abbrev pub end_refusal : Bool → Split → List Line → Option BadLine
end_refusal is_over split older =
    if is_some split.stop then Some (record { line = split.last.number; cause = 1 }) else
    if is_over then Some (record { line = split.last.number; cause = 5 }) else
    if is_some (place_of older).draft then Some (record { line = split.last.number; cause = 4 }) else None

abbrev pub refusal_from : Bool → Bool → Split → List Line → List TextLine → Option BadLine
refusal_from is_built is_over split older [] = end_refusal is_over split older
refusal_from is_built is_over split older (line ∷ lines) =
    if is_built && may_stand older (said line) then refusal_from is_built is_over split (said line ∷ older) lines else Some (record { line = line.number; cause = 6 })

abbrev pub refusal_of : Bool → List ℕ → Option BadLine
refusal_of is_built text = refusal_from is_built (is_long text) (split_of text) [] (split_of text).lines

-- THE SCREEN
abbrev pub screen : Bool → List ℕ → List ℕ
screen is_built text = screen_of one empty_world (events_of is_built text)

-- what a rehearsal is answered that was read and written without a fault
abbrev pub ending : Option BadLine → Result (Unit {0}) WorldRefusal
ending None = Ok tt
ending (Some bad) = Err (world_refusal.BadLine bad.line bad.cause)

-- what a rehearsal of a text is answered and writes: the whole screen and the ending that the text has, unless a fault or want of memory came; and always a front of the screen
pub record Shows (is_built : Bool) (text : List ℕ) (result : Result (Unit {0}) WorldRefusal) (old new : Option (List ℕ)) : Type 0 where
  pub ends : result ≢ Err world_refusal.ReadFault → result ≢ Err world_refusal.WriteFault → result ≢ Err world_refusal.NoMemory
      → (result ≡ ending (refusal_of is_built text)) × (new ≡ after_told old (screen is_built text))
  pub part : (n : ℕ) × ((n ≤ length (screen is_built text)) × (new ≡ after_told old (take n (screen is_built text))))
