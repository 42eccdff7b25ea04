-- What a line says that begins with each of the words.
use Rattle.std.proofs.Common.{◌≡◌, ℕ, true, false, List, [], ◌∷◌, refl, sym, ap, ◌∙◌, codes, rules, Option, None}
use Rattle.std.specs.Prelude.{option_map}
use Rattle.std.specs.Str.{bytes_eq, chars}
use Rattle.sds_value.specs.Names.{is_name_text}
use Rattle.sds_value.specs.declared.row.Field.{Field}
use Rattle.sds_value.specs.declared.row.Field.TheVariants.{Text}
use Rattle.sds_types.specs.declared.scenario.ScenarioLine.{ScenarioLine}
use Rattle.sds_types.specs.declared.scenario.ScenarioLine.TheVariants.{Node, Open, Register, Row, Route, Answer, Push, Pull, Wire, Show, Batches, Crash}
use Rattle.sds_scenario.specs.Counted.{one_name, two_names, three_names, one_number}
use Rattle.sds_scenario.specs.Lines.{line_of, line_of_word, line_of_fields, line_of_channels}
use Rattle.sds_scenario.specs.Rows.{row_line}
use Rattle.sds_scenario.specs.Words.{as_names}
use Rattle.sds_scenario.proofs.ByWord.{by_row, by_names, by_fields, by_channels, by_none, said_of_one, said_of_two, said_of_three}
use Rattle.sds_scenario.proofs.Literals.{matches}

-- a line by the bytes of its word
pub spelt : (bytes word : List ℕ) (slice items : List Field) → is_name_text word ≡ true → bytes ≡ word → slice ≡ items → line_of (Text (chars bytes) ∷ items) ≡ line_of (Text word ∷ slice)
spelt bytes word slice items plain is same =
    ap (λ (text : List ℕ). line_of (Text text ∷ items)) (matches bytes word plain is) ∙ ap (λ (fields : List Field). line_of (Text word ∷ fields)) (sym same)

-- what is said of the things that the fields after the word are
pub said_after : {A : Type 0} (say : A → ScenarioLine) (read : List Field → Option A) (word : List ℕ) → is_name_text word ≡ true → ((fields : List Field) → line_of (Text word ∷ fields) ≡ option_map say (read fields))
    → (bytes : List ℕ) (slice items : List Field) → bytes ≡ word → slice ≡ items → (found : Option A) (line : Option ScenarioLine) → found ≡ read slice → line ≡ option_map say found → line ≡ line_of (Text (chars bytes) ∷ items)
said_after say read word plain law bytes slice items is same found line found_is line_is =
    line_is ∙ (ap (option_map say) found_is ∙ sym (spelt bytes word slice items plain is same ∙ law slice))

-- what a row's line says
pub insert_line : (fields : List Field) → line_of (Text (codes "insert") ∷ fields) ≡ option_map Row (row_line (Text (codes "insert") ∷ fields))
insert_line = by_row (Text (codes "insert")) (search rules) (search rules) (search rules)

pub update_line : (fields : List Field) → line_of (Text (codes "update") ∷ fields) ≡ option_map Row (row_line (Text (codes "update") ∷ fields))
update_line = by_row (Text (codes "update")) (search rules) (search rules) (search rules)

pub delete_line : (fields : List Field) → line_of (Text (codes "delete") ∷ fields) ≡ option_map Row (row_line (Text (codes "delete") ∷ fields))
delete_line = by_row (Text (codes "delete")) (search rules) (search rules) (search rules)

-- what a line of one name says
pub route_line : (fields : List Field) → line_of (Text (codes "route") ∷ fields) ≡ option_map (λ name. Route name) (one_name fields)
route_line fields =
    by_names (Text (codes "route")) refl (search rules) (search rules) fields
    ∙ said_of_one (Text (codes "route")) (λ name. Route name) (λ name. refl) (λ first second. refl) (λ first second third. refl) (as_names fields)

pub show_line : (fields : List Field) → line_of (Text (codes "show") ∷ fields) ≡ option_map (λ name. Show name) (one_name fields)
show_line fields =
    by_names (Text (codes "show")) refl (search rules) (search rules) fields
    ∙ said_of_one (Text (codes "show")) (λ name. Show name) (λ name. refl) (λ first second. refl) (λ first second third. refl) (as_names fields)

pub batches_line : (fields : List Field) → line_of (Text (codes "batches") ∷ fields) ≡ option_map (λ name. Batches name) (one_name fields)
batches_line fields =
    by_names (Text (codes "batches")) refl (search rules) (search rules) fields
    ∙ said_of_one (Text (codes "batches")) (λ name. Batches name) (λ name. refl) (λ first second. refl) (λ first second third. refl) (as_names fields)

pub crash_line : (fields : List Field) → line_of (Text (codes "crash") ∷ fields) ≡ option_map (λ name. Crash name) (one_name fields)
crash_line fields =
    by_names (Text (codes "crash")) refl (search rules) (search rules) fields
    ∙ said_of_one (Text (codes "crash")) (λ name. Crash name) (λ name. refl) (λ first second. refl) (λ first second third. refl) (as_names fields)

-- of two names
pub register_names : (fields : List Field) → line_of_word (Text (codes "register") ∷ fields) ≡ option_map (λ names. Register names.0 names.1) (two_names fields)
register_names fields =
    said_of_two (Text (codes "register")) (λ names. Register names.0 names.1) (λ first second. refl) (λ name. refl) (λ first second third. refl) (as_names fields)

pub push_names : (fields : List Field) → line_of_word (Text (codes "push") ∷ fields) ≡ option_map (λ names. Push names.0 names.1) (two_names fields)
push_names fields =
    said_of_two (Text (codes "push")) (λ names. Push names.0 names.1) (λ first second. refl) (λ name. refl) (λ first second third. refl) (as_names fields)

pub pull_names : (fields : List Field) → line_of_word (Text (codes "pull") ∷ fields) ≡ option_map (λ names. Pull names.0 names.1) (two_names fields)
pull_names fields =
    said_of_two (Text (codes "pull")) (λ names. Pull names.0 names.1) (λ first second. refl) (λ name. refl) (λ first second third. refl) (as_names fields)

-- of three names
pub node_names : (fields : List Field) → line_of_word (Text (codes "node") ∷ fields) ≡ option_map (λ names. Node (record { id = names.0; group = names.1; external = names.2 })) (three_names fields)
node_names fields =
    said_of_three (Text (codes "node")) (λ names. Node (record { id = names.0; group = names.1; external = names.2 })) (λ first second third. refl) (λ name. refl) (λ first second. refl) (as_names fields)

pub open_names : (fields : List Field) → line_of_word (Text (codes "open") ∷ fields) ≡ option_map (λ names. Open names.0 names.1 names.2) (three_names fields)
open_names fields =
    said_of_three (Text (codes "open")) (λ names. Open names.0 names.1 names.2) (λ first second third. refl) (λ name. refl) (λ first second. refl) (as_names fields)

-- a line of two or three names is one of names alone
pub register_line : (fields : List Field) → line_of (Text (codes "register") ∷ fields) ≡ line_of_word (Text (codes "register") ∷ fields)
register_line = by_names (Text (codes "register")) refl (search rules) (search rules)

pub push_line : (fields : List Field) → line_of (Text (codes "push") ∷ fields) ≡ line_of_word (Text (codes "push") ∷ fields)
push_line = by_names (Text (codes "push")) refl (search rules) (search rules)

pub pull_line : (fields : List Field) → line_of (Text (codes "pull") ∷ fields) ≡ line_of_word (Text (codes "pull") ∷ fields)
pull_line = by_names (Text (codes "pull")) refl (search rules) (search rules)

pub node_line : (fields : List Field) → line_of (Text (codes "node") ∷ fields) ≡ line_of_word (Text (codes "node") ∷ fields)
node_line = by_names (Text (codes "node")) refl (search rules) (search rules)

pub open_line : (fields : List Field) → line_of (Text (codes "open") ∷ fields) ≡ line_of_word (Text (codes "open") ∷ fields)
open_line = by_names (Text (codes "open")) refl (search rules) (search rules)

-- of one number
answer_alone : (fields : List Field) → line_of_fields (Text (codes "answer") ∷ fields) ≡ option_map (λ number. Answer number) (one_number fields)
answer_alone [] = refl
answer_alone (field ∷ []) = refl
answer_alone (first ∷ (second ∷ [])) = refl
answer_alone (first ∷ (second ∷ (third ∷ []))) = refl
answer_alone (first ∷ (second ∷ (third ∷ (fourth ∷ fields)))) = refl

pub answer_line : (fields : List Field) → line_of (Text (codes "answer") ∷ fields) ≡ option_map (λ number. Answer number) (one_number fields)
answer_line fields = by_fields (Text (codes "answer")) refl (search rules) (search rules) fields ∙ answer_alone fields

wire_alone : (fields : List Field) → line_of_fields (Text (codes "wire") ∷ fields) ≡ option_map (λ number. Wire number) (one_number fields)
wire_alone [] = refl
wire_alone (field ∷ []) = refl
wire_alone (first ∷ (second ∷ [])) = refl
wire_alone (first ∷ (second ∷ (third ∷ []))) = refl
wire_alone (first ∷ (second ∷ (third ∷ (fourth ∷ fields)))) = refl

pub wire_line : (fields : List Field) → line_of (Text (codes "wire") ∷ fields) ≡ option_map (λ number. Wire number) (one_number fields)
wire_line fields = by_fields (Text (codes "wire")) refl (search rules) (search rules) fields ∙ wire_alone fields

-- of other fields
pub write_line : (fields : List Field) → line_of (Text (codes "write") ∷ fields) ≡ line_of_fields (Text (codes "write") ∷ fields)
write_line = by_fields (Text (codes "write")) refl (search rules) (search rules)

pub end_line : (fields : List Field) → line_of (Text (codes "end") ∷ fields) ≡ line_of_fields (Text (codes "end") ∷ fields)
end_line = by_fields (Text (codes "end")) refl (search rules) (search rules)

pub fault_line : (fields : List Field) → line_of (Text (codes "fault") ∷ fields) ≡ line_of_fields (Text (codes "fault") ∷ fields)
fault_line = by_fields (Text (codes "fault")) refl (search rules) (search rules)

-- and of channels
pub send_line : (fields : List Field) → line_of (Text (codes "send") ∷ fields) ≡ line_of_channels (Text (codes "send") ∷ fields)
send_line = by_channels (Text (codes "send")) refl (search rules) (search rules)

pub deliver_line : (fields : List Field) → line_of (Text (codes "deliver") ∷ fields) ≡ line_of_channels (Text (codes "deliver") ∷ fields)
deliver_line = by_channels (Text (codes "deliver")) refl (search rules) (search rules)

-- a word that is none of them
pub record IsOther (text : List ℕ) : Type 0 where
  pub not_node : bytes_eq text (codes "node") ≡ false
  pub not_open : bytes_eq text (codes "open") ≡ false
  pub not_register : bytes_eq text (codes "register") ≡ false
  pub not_write : bytes_eq text (codes "write") ≡ false
  pub not_insert : bytes_eq text (codes "insert") ≡ false
  pub not_update : bytes_eq text (codes "update") ≡ false
  pub not_delete : bytes_eq text (codes "delete") ≡ false
  pub not_end : bytes_eq text (codes "end") ≡ false
  pub not_route : bytes_eq text (codes "route") ≡ false
  pub not_send : bytes_eq text (codes "send") ≡ false
  pub not_deliver : bytes_eq text (codes "deliver") ≡ false
  pub not_answer : bytes_eq text (codes "answer") ≡ false
  pub not_push : bytes_eq text (codes "push") ≡ false
  pub not_pull : bytes_eq text (codes "pull") ≡ false
  pub not_wire : bytes_eq text (codes "wire") ≡ false
  pub not_show : bytes_eq text (codes "show") ≡ false
  pub not_batches : bytes_eq text (codes "batches") ≡ false
  pub not_crash : bytes_eq text (codes "crash") ≡ false
  pub not_fault : bytes_eq text (codes "fault") ≡ false

-- and what it says: nothing
pub other_line : (text : List ℕ) → IsOther text → (fields : List Field) → line_of (Text text ∷ fields) ≡ None
other_line text other = by_none (Text text) (rw (other.not_insert, other.not_update, other.not_delete) refl)
    (record {
      of_one = λ name. rw (other.not_route, other.not_show, other.not_batches, other.not_crash) refl;
      of_two = λ first second. rw (other.not_register, other.not_push, other.not_pull) refl;
      of_three = λ first second third. rw (other.not_node, other.not_open) refl;
    })
    (record {
      ended = other.not_end;
      numbered = λ field. rw (other.not_answer, other.not_wire) refl;
      failing = other.not_fault;
      written = other.not_write;
    })
    (record { delivered = other.not_deliver; sent = other.not_send })
