-- What the words say, by what clap answers.
use Rattle.std.proofs.Common.{◌≡◌, ◌≢◌, ◌⊎◌, inl, inr, ℕ, List, [], map, Result, Ok, Err, refl, sym, ap, subst, ◌∙◌}
use Rattle.std.specs.Prelude.{IfOk, IfErr}
use Rattle.clap.specs.Faults.{fault_of}
use Rattle.clap.specs.Kinds.{Kinds, IsAmong}
use Rattle.clap.specs.Simple.{matches_of}
use Rattle.clap.specs.Walk.{Row}
use Rattle.clap.specs.declared.error.kind.ErrorKind.{ErrorKind}
use Rattle.clap.specs.declared.error.kind.ErrorKind.TheVariants as kind
use Rattle.symds.specs.declared.words.Order.{Order}
use Rattle.symds.specs.declared.words.WordsRefusal.{WordsRefusal}
use Rattle.symds.specs.declared.words.WordsRefusal.TheVariants.{Bad, Help, Version, NoMemory}
use Rattle.symds.specs.Words.{IsBadOrder, IsMistake, IsOrder, IsRefused, order_from, order_of, program, words_refusal_of, texts_of}

pub is_order : (words texts : List (List ℕ)) (rows : List Row) (order : Order) → texts ≡ texts_of words → rows ≡ matches_of program texts → fault_of program texts ≡ []
    → order_from rows ≡ Ok order → IsOrder words order
is_order words texts rows order same found none is = subst (λ t. (fault_of program t ≡ []) × (order_from (matches_of program t) ≡ Ok order)) same
    (none, subst (λ r. order_from r ≡ Ok order) found is)

pub order_read : (words texts : List (List ℕ)) (rows : List Row) (result : Result Order WordsRefusal) → texts ≡ texts_of words → rows ≡ matches_of program texts → fault_of program texts ≡ []
    → IfOk result (λ order. order_from rows ≡ Ok order) → IfOk result (λ order. IsOrder words order)
order_read words texts rows (Ok order) same found none is = is_order words texts rows order same found none is
order_read words texts rows (Err why) same found none is = tt

bad_place : (words : List (List ℕ)) (place : ℕ) (why : WordsRefusal) → why ≡ Bad place → fault_of program (texts_of words) ≡ [] → order_of (texts_of words) ≡ Err (Bad place) → IsRefused words why
bad_place words place why is none answer = subst (IsRefused words) (sym is) (inl (none, answer))

is_bad : (words texts : List (List ℕ)) (rows : List Row) (why : WordsRefusal) → texts ≡ texts_of words → rows ≡ matches_of program texts → fault_of program texts ≡ []
    → IsBadOrder rows why → IsRefused words why
is_bad words texts rows why same found none (place, (is, answer)) = bad_place words place why is (subst (λ t. fault_of program t ≡ []) same none)
    (subst (λ t. order_from (matches_of program t) ≡ Err (Bad place)) same (subst (λ r. order_from r ≡ Err (Bad place)) found answer))

why_bad : (words texts : List (List ℕ)) (rows : List Row) (why : WordsRefusal) → texts ≡ texts_of words → rows ≡ matches_of program texts → fault_of program texts ≡ []
    → (why ≢ NoMemory → IsBadOrder rows why) → IsRefused words why
why_bad words texts rows (Bad place) same found none is = is_bad words texts rows (Bad place) same found none (is (λ e. cc))
why_bad words texts rows Help same found none is = is_bad words texts rows Help same found none (is (λ e. cc))
why_bad words texts rows Version same found none is = is_bad words texts rows Version same found none (is (λ e. cc))
why_bad words texts rows NoMemory same found none is = tt

pub refusal_read : (words texts : List (List ℕ)) (rows : List Row) (result : Result Order WordsRefusal) → texts ≡ texts_of words → rows ≡ matches_of program texts → fault_of program texts ≡ []
    → IfErr result (λ why. why ≢ NoMemory → IsBadOrder rows why) → IfErr result (λ why. IsRefused words why)
refusal_read words texts rows (Ok order) same found none is = tt
refusal_read words texts rows (Err why) same found none is = why_bad words texts rows why same found none is

-- what clap refuses
mistaken : (words : List (List ℕ)) (mistake : ErrorKind) → IsAmong mistake (fault_of program (texts_of words)) → words_refusal_of mistake ≡ Bad 0 → IsMistake mistake → IsRefused words (words_refusal_of mistake)
mistaken words mistake among is mistakes = subst (IsRefused words) (sym is) (inr (refl, (mistake, (among, mistakes))))

among_refused : (words : List (List ℕ)) (mistake : ErrorKind) → IsAmong mistake (fault_of program (texts_of words)) → IsRefused words (words_refusal_of mistake)
among_refused words kind.DisplayHelp among = among
among_refused words kind.DisplayVersion among = among
among_refused words kind.OutOfMemory among = tt
among_refused words kind.InvalidValue among = mistaken words kind.InvalidValue among refl (λ e. cc, λ e. cc)
among_refused words kind.UnknownArgument among = mistaken words kind.UnknownArgument among refl (λ e. cc, λ e. cc)
among_refused words kind.InvalidSubcommand among = mistaken words kind.InvalidSubcommand among refl (λ e. cc, λ e. cc)
among_refused words kind.NoEquals among = mistaken words kind.NoEquals among refl (λ e. cc, λ e. cc)
among_refused words kind.ValueValidation among = mistaken words kind.ValueValidation among refl (λ e. cc, λ e. cc)
among_refused words kind.TooManyValues among = mistaken words kind.TooManyValues among refl (λ e. cc, λ e. cc)
among_refused words kind.TooFewValues among = mistaken words kind.TooFewValues among refl (λ e. cc, λ e. cc)
among_refused words kind.WrongNumberOfValues among = mistaken words kind.WrongNumberOfValues among refl (λ e. cc, λ e. cc)
among_refused words kind.ArgumentConflict among = mistaken words kind.ArgumentConflict among refl (λ e. cc, λ e. cc)
among_refused words kind.MissingRequiredArgument among = mistaken words kind.MissingRequiredArgument among refl (λ e. cc, λ e. cc)
among_refused words kind.MissingSubcommand among = mistaken words kind.MissingSubcommand among refl (λ e. cc, λ e. cc)
among_refused words kind.DisplayHelpOnMissingArgumentOrSubcommand among = mistaken words kind.DisplayHelpOnMissingArgumentOrSubcommand among refl (λ e. cc, λ e. cc)
among_refused words kind.Io among = mistaken words kind.Io among refl (λ e. cc, λ e. cc)
among_refused words kind.Format among = mistaken words kind.Format among refl (λ e. cc, λ e. cc)

pub fault_read : (words texts : List (List ℕ)) (mistake : ErrorKind) (answer : WordsRefusal) → texts ≡ texts_of words → (mistake ≡ kind.OutOfMemory) ⊎ IsAmong mistake (fault_of program texts)
    → answer ≡ words_refusal_of mistake → IsRefused words answer
fault_read words texts mistake answer same (inl memory) is = subst (IsRefused words) (sym (is ∙ ap words_refusal_of memory)) tt
fault_read words texts mistake answer same (inr among) is = subst (IsRefused words) (sym is) (among_refused words mistake (subst (λ t. IsAmong mistake (fault_of program t)) same among))
