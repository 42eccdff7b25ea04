-- What a line says, by the word that it begins with.
use Rattle.std.proofs.Common.{◌≡◌, ℕ, false, List, [], ◌∷◌, refl, codes, Option, None, Some}
use Rattle.std.specs.Option.{option_or, option_and_then}
use Rattle.std.specs.Prelude.{option_map}
use Rattle.sds_value.specs.declared.row.Field.{Field}
use Rattle.sds_value.specs.declared.row.Field.TheVariants.{Null, Text}
use Rattle.sds_types.specs.declared.scenario.ScenarioLine.{ScenarioLine}
use Rattle.sds_types.specs.declared.scenario.ScenarioLine.TheVariants.{Row}
use Rattle.sds_scenario.specs.Counted.{only, pair, triple}
use Rattle.sds_scenario.specs.Lines.{line_of, line_of_name, line_of_pair, line_of_three, line_of_names, line_of_word, line_of_fields, line_of_channels, line_of_number}
use Rattle.sds_scenario.specs.Rows.{event_named, row_line}
use Rattle.sds_scenario.specs.Words.{as_names, is_word}

-- the word is none of a row's
no_row : (word : Field) → event_named word ≡ None → (fields : List Field) → row_line (word ∷ fields) ≡ None
no_row word other [] = refl
no_row word other (Null ∷ fields) = refl
no_row word other (Text table ∷ fields) = rw other refl

-- none of a line of names
pub record NamesNothing (word : Field) : Type 0 where
  pub of_one : (name : List ℕ) → line_of_name word name ≡ None
  pub of_two : (first second : List ℕ) → line_of_pair word first second ≡ None
  pub of_three : (first second third : List ℕ) → line_of_three word first second third ≡ None

no_list : (word : Field) → NamesNothing word → (names : Option (List (List ℕ))) → option_and_then (line_of_names word) names ≡ None
no_list word nothing None = refl
no_list word nothing (Some []) = refl
no_list word nothing (Some (first ∷ [])) = nothing.of_one first
no_list word nothing (Some (first ∷ (second ∷ []))) = nothing.of_two first second
no_list word nothing (Some (first ∷ (second ∷ (third ∷ [])))) = nothing.of_three first second third
no_list word nothing (Some (first ∷ (second ∷ (third ∷ (fourth ∷ names))))) = refl

no_names : (word : Field) → NamesNothing word → (fields : List Field) → line_of_word (word ∷ fields) ≡ None
no_names word nothing fields = no_list word nothing (as_names fields)

-- none of a line of other fields
pub record SaysNothing (word : Field) : Type 0 where
  pub ended : is_word word (codes "end") ≡ false
  pub numbered : (field : Field) → line_of_number word field ≡ None
  pub failing : is_word word (codes "fault") ≡ false
  pub written : is_word word (codes "write") ≡ false

no_fields : (word : Field) → SaysNothing word → (fields : List Field) → line_of_fields (word ∷ fields) ≡ None
no_fields word nothing [] = rw nothing.ended refl
no_fields word nothing (field ∷ []) = nothing.numbered field
no_fields word nothing (first ∷ (second ∷ [])) = rw nothing.failing refl
no_fields word nothing (first ∷ (second ∷ (third ∷ []))) = rw nothing.written refl
no_fields word nothing (first ∷ (second ∷ (third ∷ (fourth ∷ fields)))) = refl

-- none of a line of channels
pub record CarriesNothing (word : Field) : Type 0 where
  pub delivered : is_word word (codes "deliver") ≡ false
  pub sent : is_word word (codes "send") ≡ false

no_channels : (word : Field) → CarriesNothing word → (fields : List Field) → line_of_channels (word ∷ fields) ≡ None
no_channels word nothing [] = refl
no_channels word nothing (field ∷ fields) = rw (nothing.delivered, nothing.sent) refl

or_none : (line : Option ScenarioLine) → option_or line None ≡ line
or_none None = refl
or_none (Some line) = refl

-- a line of a row
pub by_row : (word : Field) → NamesNothing word → SaysNothing word → CarriesNothing word → (fields : List Field) → line_of (word ∷ fields) ≡ option_map Row (row_line (word ∷ fields))
by_row word names says carries fields = rw (no_names word names fields, no_fields word says fields, no_channels word carries fields) (or_none (option_map Row (row_line (word ∷ fields))))

-- of names
pub by_names : (word : Field) → event_named word ≡ None → SaysNothing word → CarriesNothing word → (fields : List Field) → line_of (word ∷ fields) ≡ line_of_word (word ∷ fields)
by_names word row says carries fields = rw (no_row word row fields, no_fields word says fields, no_channels word carries fields) (or_none (line_of_word (word ∷ fields)))

-- of other fields
pub by_fields : (word : Field) → event_named word ≡ None → NamesNothing word → CarriesNothing word → (fields : List Field) → line_of (word ∷ fields) ≡ line_of_fields (word ∷ fields)
by_fields word row names carries fields = rw (no_row word row fields, no_names word names fields, no_channels word carries fields) (or_none (line_of_fields (word ∷ fields)))

-- of channels
pub by_channels : (word : Field) → event_named word ≡ None → NamesNothing word → SaysNothing word → (fields : List Field) → line_of (word ∷ fields) ≡ line_of_channels (word ∷ fields)
by_channels word row names says fields = rw (no_row word row fields, no_names word names fields, no_fields word says fields) refl

-- and of nothing
pub by_none : (word : Field) → event_named word ≡ None → NamesNothing word → SaysNothing word → CarriesNothing word → (fields : List Field) → line_of (word ∷ fields) ≡ None
by_none word row names says carries fields = rw (no_row word row fields, no_names word names fields, no_fields word says fields) (no_channels word carries fields)

-- a word that one name follows
pub said_of_one : (word : Field) (say : List ℕ → ScenarioLine) → ((name : List ℕ) → line_of_name word name ≡ Some (say name))
    → ((first second : List ℕ) → line_of_pair word first second ≡ None) → ((first second third : List ℕ) → line_of_three word first second third ≡ None)
    → (names : Option (List (List ℕ))) → option_and_then (line_of_names word) names ≡ option_map say (option_and_then only names)
said_of_one word say is pair triple None = refl
said_of_one word say is pair triple (Some []) = refl
said_of_one word say is pair triple (Some (first ∷ [])) = is first
said_of_one word say is pair triple (Some (first ∷ (second ∷ []))) = pair first second
said_of_one word say is pair triple (Some (first ∷ (second ∷ (third ∷ [])))) = triple first second third
said_of_one word say is pair triple (Some (first ∷ (second ∷ (third ∷ (fourth ∷ names))))) = refl

-- two
pub said_of_two : (word : Field) (say : List ℕ × List ℕ → ScenarioLine) → ((first second : List ℕ) → line_of_pair word first second ≡ Some (say (first, second)))
    → ((name : List ℕ) → line_of_name word name ≡ None) → ((first second third : List ℕ) → line_of_three word first second third ≡ None)
    → (names : Option (List (List ℕ))) → option_and_then (line_of_names word) names ≡ option_map say (option_and_then pair names)
said_of_two word say is single triple None = refl
said_of_two word say is single triple (Some []) = refl
said_of_two word say is single triple (Some (first ∷ [])) = single first
said_of_two word say is single triple (Some (first ∷ (second ∷ []))) = is first second
said_of_two word say is single triple (Some (first ∷ (second ∷ (third ∷ [])))) = triple first second third
said_of_two word say is single triple (Some (first ∷ (second ∷ (third ∷ (fourth ∷ names))))) = refl

-- three
pub said_of_three : (word : Field) (say : List ℕ × List ℕ × List ℕ → ScenarioLine) → ((first second third : List ℕ) → line_of_three word first second third ≡ Some (say (first, second, third)))
    → ((name : List ℕ) → line_of_name word name ≡ None) → ((first second : List ℕ) → line_of_pair word first second ≡ None)
    → (names : Option (List (List ℕ))) → option_and_then (line_of_names word) names ≡ option_map say (option_and_then triple names)
said_of_three word say is single pair None = refl
said_of_three word say is single pair (Some []) = refl
said_of_three word say is single pair (Some (first ∷ [])) = single first
said_of_three word say is single pair (Some (first ∷ (second ∷ []))) = pair first second
said_of_three word say is single pair (Some (first ∷ (second ∷ (third ∷ [])))) = is first second third
said_of_three word say is single pair (Some (first ∷ (second ∷ (third ∷ (fourth ∷ names))))) = refl
