-- The values of an argument as clap's matches give them, and that the command line is one of clap's simple ones.
use Rattle.std.proofs.Common.{◌≡◌, ℕ, Bool, true, false, List, [], ◌∷◌, Option, None, Some, map, option_map, slice_get, refl, codes, if◌then◌else◌}
use Rattle.std.specs.Prelude.{find, option_and_then, unwrap_or}
use Rattle.std.specs.Borrow.{Bor}
use Rattle.std.specs.Option.{option_map_or}
use Rattle.std.specs.Str.{bytes_eq, chars}
use Rattle.clap.specs.Faults.{is_simple_and_free}
use Rattle.clap.specs.Matches.{first_value, matched_of, raw_values}
use Rattle.clap.specs.Simple.{App}
use Rattle.clap.specs.Walk.{Row, row_of, rows_of}
use Rattle.clap.specs.declared.parser.matches.Found.{Found}
use Rattle.clap.specs.declared.parser.matches.MatchedArg.{MatchedArg}
use Rattle.symds.specs.declared.words.Order.{Order}
use Rattle.symds.specs.Words.{command_in, is_plain, keeper_in, order_in, port_in, program, rest_in, value_in, values_in}

abbrev Entries : Type 0
Entries = List (Bor (List ℕ) × MatchedArg)

abbrev first_in : Entries → List ℕ → Option (List ℕ)
first_in entries id = option_and_then (λ a. option_map (λ s. s.now) (slice_get a.vals.items 0))
    (option_map (λ e. e.1) (find (λ e. bytes_eq e.0.now id) entries))

first_of : (values : List (Bor (List ℕ))) → option_map (λ s. s.now) (slice_get values 0) ≡ slice_get (map (λ s. s.now) values) 0
first_of [] = refl
first_of (value ∷ values) = refl

first_step : (entry : Bor (List ℕ) × MatchedArg) (entries : Entries) (id : List ℕ) (b : Bool) → bytes_eq entry.0.now id ≡ b
    → first_in entries id ≡ slice_get (values_in (map row_of entries) id) 0 → first_in (entry ∷ entries) id ≡ slice_get (values_in (map row_of (entry ∷ entries)) id) 0
first_step entry entries id true is rest = rw is (first_of entry.1.vals.items)
first_step entry entries id false is rest = rw is rest

first_at : (entries : Entries) (id : List ℕ) → first_in entries id ≡ slice_get (values_in (map row_of entries) id) 0
first_at [] id = refl
first_at (entry ∷ entries) id = first_step entry entries id _ refl (first_at entries id)

pub first_is : (found : Found) (id : List ℕ) → first_value found id ≡ slice_get (values_in (rows_of found) id) 0
first_is found id = first_at found.entries.items id

pub simple : (a : App) → a ≡ program → is_simple_and_free a ≡ true
simple a is = rw is refl

-- a value that may stand, and none
pub value_plain : (found : Found) (id value : List ℕ) → Some value ≡ first_value found id → is_plain value ≡ true → Some value ≡ value_in (rows_of found) id
value_plain found id value is may = rw (← first_is found id) (rw (← is) (rw may refl))

pub value_other : (found : Found) (id value : List ℕ) → Some value ≡ first_value found id → is_plain value ≡ false → None ≡ value_in (rows_of found) id
value_other found id value is not = rw (← first_is found id) (rw (← is) (rw not refl))

pub value_none : (found : Found) (id : List ℕ) → None ≡ first_value found id → None ≡ value_in (rows_of found) id
value_none found id is = rw (← first_is found id) (rw (← is) refl)

-- all values
abbrev all_in : Entries → List ℕ → Option (List (List ℕ))
all_in entries id = option_map raw_values (option_map (λ e. e.1) (find (λ e. bytes_eq e.0.now id) entries))

all_step : (entry : Bor (List ℕ) × MatchedArg) (entries : Entries) (id : List ℕ) (b : Bool) → bytes_eq entry.0.now id ≡ b
    → unwrap_or (all_in entries id) [] ≡ values_in (map row_of entries) id → unwrap_or (all_in (entry ∷ entries) id) [] ≡ values_in (map row_of (entry ∷ entries)) id
all_step entry entries id true is rest = rw is refl
all_step entry entries id false is rest = rw is rest

all_at : (entries : Entries) (id : List ℕ) → unwrap_or (all_in entries id) [] ≡ values_in (map row_of entries) id
all_at [] id = refl
all_at (entry ∷ entries) id = all_step entry entries id _ refl (all_at entries id)

pub all_are : (found : Found) (id : List ℕ) (values : List (List ℕ)) → Some values ≡ option_map raw_values (matched_of found id) → values ≡ values_in (rows_of found) id
all_are found id values is = rw (← all_at found.entries.items id) (rw (← is) refl)

pub none_are : (found : Found) (id : List ℕ) → None ≡ option_map raw_values (matched_of found id) → [] ≡ values_in (rows_of found) id
none_are found id is = rw (← all_at found.entries.items id) (rw (← is) refl)

-- the command
pub command_given : (found : Found) (command : List ℕ) → Some command ≡ first_value found (codes "command") → chars command ≡ command_in (rows_of found)
command_given found command is = rw (← first_is found (codes "command")) (rw (← is) refl)

pub command_none : (found : Found) → None ≡ first_value found (codes "command") → chars [] ≡ command_in (rows_of found)
command_none found is = rw (← first_is found (codes "command")) (rw (← is) refl)

-- the order of values that may stand
abbrev made : Order → Order
made order = order

pub order_is : (rows : List Row) (folder keeper f k c : List ℕ) (port : ℕ) (rest : List (List ℕ)) → Some folder ≡ value_in rows (codes "folder") → Some keeper ≡ keeper_in rows → Some port ≡ port_in rows
    → f ≡ chars folder → k ≡ chars keeper → c ≡ command_in rows → rest ≡ rest_in rows → Some (made (record { folder = f; keeper = k; port = port; command = c; rest = rest })) ≡ order_in rows
order_is rows folder keeper f k c port rest in-folder in-keeper in-port is-folder is-keeper is-command is-rest =
    rw (← in-folder) (rw (← in-keeper) (rw (← in-port) (rw (is-folder, is-keeper, is-command, is-rest) refl)))
