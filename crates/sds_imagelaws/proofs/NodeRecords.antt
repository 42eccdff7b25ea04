-- The records of the node, its counters, peers, openings and writers tell them.
use Rattle.std.proofs.Common.{◌≡◌, ℕ, ◌≤◌, ◌==◌, ◌&&◌, ◌||◌, Bool, true, false, cond, List, [], ◌∷◌, refl, sym, ap, subst, ◌∙◌, arith, true≢false, All}
use Rattle.std.specs.Prelude.{IsTrue, codes}
use Rattle.std.specs.List.{AllByRecursion}
use Rattle.std.specs.Str.{all_scalars, bytes_eq, encode_utf8_all}
use Rattle.std.proofs.lemmas.Bool.{eqb-true}
use Rattle.std.proofs.lemmas.List.{append_cancel_left}
use Rattle.std.proofs.lemmas.Str.{encodes_same}
use Rattle.sds_value.specs.Names.{is_name_text}
use Rattle.sds_value.specs.declared.row.Field.{Field}
use Rattle.sds_value.specs.declared.row.Field.TheVariants.{Text}
use Rattle.sds_value.specs.declared.row.Peer.{Peer}
use Rattle.sds_value.proofs.Characters.{left_true, right_true}
use Rattle.sds_types.specs.Limits.{most_count}
use Rattle.sds_types.specs.declared.config.Config.{Config}
use Rattle.sds_types.specs.declared.counts.Counts.{Counts}
use Rattle.sds_types.specs.declared.counts.WriterLast.{WriterLast}
use Rattle.sds_types.specs.declared.peer.KeptPeer.{KeptPeer}
use Rattle.sds_types.specs.declared.registration.Opening.{Opening}
use Rattle.sds_types.specs.declared.registration.Stage.{Stage}
use Rattle.sds_types.specs.declared.registration.Stage.TheVariants.{Waiting, Given, Closed}
use Rattle.sds_line.specs.Written.{are_fields}
use Rattle.sds_trade.specs.rules.Places.{is_among}
use Rattle.sds_trade.specs.rules.Sound.{IsSound}
use Rattle.sds_trade.proofs.Lists.{all_head, all_tail}
use Rattle.sds_history.specs.history.Records.{count_record, me_record, opening_record, peer_record, side_word, stage_fields, writer_record}
use Rattle.sds_history.specs.history.SoundParts.{AreCounts, is_kept_peer, is_opening, is_peer, is_token}
use Rattle.sds_imagelaws.proofs.Fields.{Good, Small, all_numbers, first_byte, first_field, first_text, later_fields, line_tells, name_good, number_at, numbers_good, rest_of, text_in, texts_good, token_good, with_text}
use Rattle.sds_imagelaws.proofs.Keys.{after_names}
use Rattle.sds_imagelaws.proofs.Tests.{equal}

-- NAMES of a node
pub record AreNames (peer : Peer) : Type 0 where
  pub id : is_name_text peer.id ≡ true
  pub group : is_name_text peer.group ≡ true
  pub external : is_name_text peer.external ≡ true

pub among_named : (groups : List (List ℕ)) (group : List ℕ) → All (λ (g : List ℕ). IsTrue (is_name_text g)) groups → is_among groups group ≡ true
    → is_name_text group ≡ true
among_named [] group are is = absurd (true≢false (sym is))
among_named (g ∷ groups) group are is =
    on (bytes_eq g group) refl is (among_named groups group (all_tail (λ (t : List ℕ). IsTrue (is_name_text t)) g groups are))
  where
    on : (b : Bool) → bytes_eq g group ≡ b → (b || is_among groups group) ≡ true → (is_among groups group ≡ true → is_name_text group ≡ true)
        → is_name_text group ≡ true
    on true same found rest = subst (λ t. is_name_text t ≡ true) (equal g group same) (all_head (λ (t : List ℕ). IsTrue (is_name_text t)) g groups are)
    on false other found rest = rest found

pub peer_names : (config : Config) → IsSound config → (peer : Peer) → is_peer config peer ≡ true → AreNames peer
peer_names config sound peer is =
    let rest = right_true (is_name_text peer.id) (is_among config.groups peer.group && is_name_text peer.external) is in
    record {
      id = left_true (is_name_text peer.id) (is_among config.groups peer.group && is_name_text peer.external) is;
      group = among_named config.groups peer.group sound.groups.named (left_true (is_among config.groups peer.group) (is_name_text peer.external) rest);
      external = right_true (is_among config.groups peer.group) (is_name_text peer.external) rest;
    }

-- THE NODE
me_good : (me : Peer) → AreNames me → are_fields (Text me.id ∷ (Text me.group ∷ (Text me.external ∷ []))) ≡ true
me_good me are = texts_good (me.id ∷ (me.group ∷ (me.external ∷ [])))
    (name_good me.id are.id, (name_good me.group are.group, (name_good me.external are.external, tt)))

pub same_me : (a b : Peer) → AreNames a → AreNames b → (me_record a).body ≡ (me_record b).body → a ≡ b
same_me a b are also same =
    let fields = line_tells a.id b.id _ _ (me_good a are) (me_good b also) same in
    let rest = rest_of (Text a.id) (Text b.id) _ _ fields in
    let last = rest_of (Text a.group) (Text b.group) _ _ rest in
    let id : a.id ≡ b.id = first_text a.id b.id _ _ fields in
    let group : a.group ≡ b.group = first_text a.group b.group _ _ rest in
    let external : a.external ≡ b.external = first_text a.external b.external [] [] last in
    λ i. record { id = id i; group = group i; external = external i }

-- THE COUNTERS
abbrev pub count_numbers : Counts → List ℕ
count_numbers counts = counts.acts ∷ (counts.last_change ∷ (counts.last_batch ∷ (counts.last_tx ∷ (counts.routed ∷ []))))

small_count : (n : ℕ) → n ≤ most_count → Small n
small_count n most = omega (arith, most)

counts_small : (counts : Counts) → AreCounts counts → AllByRecursion Small (count_numbers counts)
counts_small counts are = (
  small_count counts.acts are.acts,
  (
    small_count counts.last_change are.last_change,
    (
      small_count counts.last_batch are.last_batch,
      (
        small_count counts.last_tx are.last_tx,
        (routed_small counts.routed counts.last_change are.routed are.last_change, tt),
      ),
    ),
  ),
)
  where
    routed_small : (m n : ℕ) → m ≤ n → n ≤ most_count → Small m
    routed_small m n less most = omega (arith, less, most)

one_counts : (a b : Counts) → count_numbers a ≡ count_numbers b → a ≡ b
one_counts a b is =
    let acts : a.acts ≡ b.acts = ap (number_at 0) is in
    let last_change : a.last_change ≡ b.last_change = ap (number_at 1) is in
    let last_batch : a.last_batch ≡ b.last_batch = ap (number_at 2) is in
    let last_tx : a.last_tx ≡ b.last_tx = ap (number_at 3) is in
    let routed : a.routed ≡ b.routed = ap (number_at 4) is in
    λ i. record { acts = acts i; last_change = last_change i; last_batch = last_batch i; last_tx = last_tx i; routed = routed i }

pub small_counts : (a b : Counts) → AllByRecursion Small (count_numbers a) → AllByRecursion Small (count_numbers b)
    → (count_record a).body ≡ (count_record b).body → a ≡ b
small_counts a b small also same =
    one_counts a b (all_numbers (count_numbers a) (count_numbers b) small also
    (line_tells _ _ _ _ (numbers_good (count_numbers a) small) (numbers_good (count_numbers b) also) same))

pub same_counts : (a b : Counts) → AreCounts a → AreCounts b → (count_record a).body ≡ (count_record b).body → a ≡ b
same_counts a b are also same = small_counts a b (counts_small a are) (counts_small b also) same

-- counters of no act are all 0
pub no_acts : (a b : Counts) → AreCounts a → AreCounts b → a.acts ≡ 0 → b.acts ≡ 0 → a ≡ b
no_acts a b are also zero_a zero_b =
    one_counts a b (zeros a are zero_a ∙ sym (zeros b also zero_b))
  where
    zeros : (c : Counts) → AreCounts c → c.acts ≡ 0 → count_numbers c ≡ 0 ∷ (0 ∷ (0 ∷ (0 ∷ (0 ∷ []))))
    zeros c are zero_c =
        let all = are.none zero_c in
        let rest = right_true (c.last_change == 0) _ all in
        let last = right_true (c.last_batch == 0) _ rest in
        let change = eqb-true c.last_change 0 (left_true (c.last_change == 0) _ all) in
        let batch = eqb-true c.last_batch 0 (left_true (c.last_batch == 0) _ rest) in
        let tx = eqb-true c.last_tx 0 (left_true (c.last_tx == 0) (c.routed == 0) last) in
        let routed = eqb-true c.routed 0 (right_true (c.last_tx == 0) (c.routed == 0) last) in
        λ i. zero_c i ∷ (change i ∷ (batch i ∷ (tx i ∷ (routed i ∷ []))))

-- PEERS
pub record PeerFits (kept : KeptPeer) : Type 0 where
  pub names : AreNames kept.peer
  pub token : is_token kept.token ≡ true

pub peer_fits : (config : Config) → IsSound config → (kept : KeptPeer) → is_kept_peer config kept ≡ true → PeerFits kept
peer_fits config sound kept is = record {
  names = peer_names config sound kept.peer (left_true (is_peer config kept.peer) (is_token kept.token) is);
  token = right_true (is_peer config kept.peer) (is_token kept.token) is;
}

side_good : (child : Bool) → all_scalars (side_word child) ≡ true
side_good true = refl
side_good false = refl

abbrev side_back : List ℕ → Bool
side_back [] = false
side_back (c ∷ cs) = c == 99

side_is : (child : Bool) → side_back (side_word child) ≡ child
side_is true = refl
side_is false = refl

peer_good : (kept : KeptPeer) → PeerFits kept
    → are_fields (Text kept.peer.group ∷ (Text kept.peer.external ∷ (Text kept.token ∷ (Text (side_word kept.child) ∷ [])))) ≡ true
peer_good kept fit =
    texts_good (kept.peer.group ∷ (kept.peer.external ∷ (kept.token ∷ (side_word kept.child ∷ [])))) (
      name_good kept.peer.group fit.names.group,
      (
        name_good kept.peer.external fit.names.external,
        (token_good kept.token fit.token, (side_good kept.child, tt)),
      ),
    )

pub same_peer : (a b : KeptPeer) → PeerFits a → PeerFits b → (peer_record a).key ≡ (peer_record b).key → (peer_record a).body ≡ (peer_record b).body → a ≡ b
same_peer a b fit also key same =
    let id : a.peer.id ≡ b.peer.id = encodes_same a.peer.id b.peer.id (append_cancel_left (codes "n/") _ _ key) in
    let fields = line_tells a.peer.group b.peer.group _ _ (peer_good a fit) (peer_good b also) same in
    let second = rest_of (Text a.peer.group) (Text b.peer.group) _ _ fields in
    let third = rest_of (Text a.peer.external) (Text b.peer.external) _ _ second in
    let last = rest_of (Text a.token) (Text b.token) _ _ third in
    let group : a.peer.group ≡ b.peer.group = first_text a.peer.group b.peer.group _ _ fields in
    let external : a.peer.external ≡ b.peer.external = first_text a.peer.external b.peer.external _ _ second in
    let token : a.token ≡ b.token = first_text a.token b.token _ _ third in
    let child : a.child ≡ b.child =
    sym (side_is a.child) ∙ (ap side_back (first_text (side_word a.child) (side_word b.child) [] [] last) ∙ side_is b.child) in
    λ i. record { peer = record { id = id i; group = group i; external = external i }; token = token i; child = child i }

-- OPENINGS
abbrev pub StageFits : Stage → Type 0
StageFits Waiting = Unit {0}
StageFits (Given node) = Good node
StageFits (Closed node) = Good node

pub record OpeningFits (opening : Opening) : Type 0 where
  pub group : is_name_text opening.group ≡ true
  pub external : is_name_text opening.external ≡ true
  pub token : is_token opening.token ≡ true
  pub stage : StageFits opening.stage

pub opening_fits : (config : Config) → IsSound config → (opening : Opening) → is_opening config opening ≡ true → StageFits opening.stage → OpeningFits opening
opening_fits config sound opening is stage =
    let rest = right_true (is_among config.groups opening.group) (is_name_text opening.external && is_token opening.token) is in
    record {
      group = among_named config.groups opening.group sound.groups.named
          (left_true (is_among config.groups opening.group) (is_name_text opening.external && is_token opening.token) is);
      external = left_true (is_name_text opening.external) (is_token opening.token) rest;
      token = right_true (is_name_text opening.external) (is_token opening.token) rest;
      stage = stage;
    }

stage_good : (stage : Stage) → StageFits stage → are_fields (stage_fields stage) ≡ true
stage_good Waiting fit = refl
stage_good (Given node) fit = texts_good (codes "given" ∷ (node ∷ [])) (refl, (fit, tt))
stage_good (Closed node) fit = texts_good (codes "closed" ∷ (node ∷ [])) (refl, (fit, tt))

abbrev stage_by : ℕ → List ℕ → Stage
stage_by first node = cond (first == 119) Waiting (cond (first == 103) (Given node) (Closed node))

abbrev stage_back : List Field → Stage
stage_back fields = stage_by (first_byte (text_in (first_field fields))) (text_in (first_field (later_fields fields)))

stage_is : (stage : Stage) → stage_back (stage_fields stage) ≡ stage
stage_is Waiting = refl
stage_is (Given node) = refl
stage_is (Closed node) = refl

pub same_opening : (a b : Opening) → OpeningFits a → OpeningFits b → (opening_record a).key ≡ (opening_record b).key
    → (opening_record a).body ≡ (opening_record b).body → a ≡ b
same_opening a b fit also key same =
    let names = after_names a.group b.group (encode_utf8_all a.external) (encode_utf8_all b.external) fit.group also.group
    (append_cancel_left (codes "o/") _ _ key) in
    let fields = line_tells a.token b.token (stage_fields a.stage) (stage_fields b.stage)
    (with_text a.token (stage_fields a.stage) (token_good a.token fit.token) (stage_good a.stage fit.stage))
    (with_text b.token (stage_fields b.stage) (token_good b.token also.token) (stage_good b.stage also.stage)) same in
    let external : a.external ≡ b.external = encodes_same a.external b.external names.after in
    let token : a.token ≡ b.token = first_text a.token b.token _ _ fields in
    let stage : a.stage ≡ b.stage =
    sym (stage_is a.stage) ∙ (ap stage_back (rest_of (Text a.token) (Text b.token) (stage_fields a.stage) (stage_fields b.stage) fields) ∙ stage_is b.stage) in
    λ i. record { group = names.before i; external = external i; token = token i; stage = stage i }

-- WRITERS
pub record WriterFits (last : WriterLast) : Type 0 where
  pub number : Small last.number
  pub first : Small last.first
  pub count : Small last.count

writer_numbers : (last : WriterLast) → WriterFits last → AllByRecursion Small (last.number ∷ (last.first ∷ (last.count ∷ [])))
writer_numbers last fit = (fit.number, (fit.first, (fit.count, tt)))

pub same_writer : (a b : WriterLast) → WriterFits a → WriterFits b → (writer_record a).key ≡ (writer_record b).key
    → (writer_record a).body ≡ (writer_record b).body → a ≡ b
same_writer a b fit also key same =
    let numbers = all_numbers (a.number ∷ (a.first ∷ (a.count ∷ []))) (b.number ∷ (b.first ∷ (b.count ∷ []))) (writer_numbers a fit) (writer_numbers b also)
    (line_tells _ _ _ _ (numbers_good (a.number ∷ (a.first ∷ (a.count ∷ []))) (writer_numbers a fit))
    (numbers_good (b.number ∷ (b.first ∷ (b.count ∷ []))) (writer_numbers b also)) same) in
    let writer : a.writer ≡ b.writer = encodes_same a.writer b.writer (append_cancel_left (codes "w/") _ _ key) in
    let number : a.number ≡ b.number = ap (number_at 0) numbers in
    let first : a.first ≡ b.first = ap (number_at 1) numbers in
    let count : a.count ≡ b.count = ap (number_at 2) numbers in
    λ i. record { writer = writer i; number = number i; first = first i; count = count i }
