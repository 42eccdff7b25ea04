-- What the words of records tell: the side of a peer, the stage of an opening, the standing of a batch, the status of a lane.
use Rattle.std.proofs.Common.{◌≡◌, ℕ, ◌<◌, Bool, true, false, List, [], ◌∷◌, Option, None, Some, refl, sym, ap, ◌∙◌, true≢false}
use Rattle.std.specs.Prelude.{codes}
use Rattle.std.specs.Str.{bytes_eq, chars}
use Rattle.sds_value.specs.declared.row.Event.{Event}
use Rattle.sds_value.specs.declared.row.Event.TheVariants.{Insert, Update, Delete}
use Rattle.sds_value.specs.declared.row.Field.{Field}
use Rattle.sds_value.specs.declared.row.Field.TheVariants.{Null, Text}
use Rattle.sds_types.specs.Standings.{name_of}
use Rattle.sds_types.specs.declared.batch.Standing.{Standing}
use Rattle.sds_types.specs.declared.batch.Standing.TheVariants.{New, Erred, Acked}
use Rattle.sds_types.specs.declared.registration.Stage.{Stage}
use Rattle.sds_types.specs.declared.registration.Stage.TheVariants.{Waiting, Given, Closed}
use Rattle.sds_history.specs.history.Records.{error_fields, number_field, side_word, status_field}
use Rattle.sds_history.specs.history.RowRecords.{event_word}
use Rattle.sds_records.specs.Told.{IsHeldStanding, IsNarrow, stage_node, stage_word}

-- whether a text is a word
abbrev pub is_word : List ℕ → List ℕ → Bool
is_word text word = bytes_eq text (chars word)

text_is : {a b : List ℕ} → Text a ≡ Text b → a ≡ b
text_is {a} {b} same = cc

null_text : {a : List ℕ} → Null ≡ Text a → ⊥
null_text {a} same = cc

-- a test of a word that comes out the other way
other_way : {a : Bool} → a ≡ true → a ≡ false → ⊥
other_way {a} passes fails = true≢false (sym passes ∙ fails)

pub side_said : (word : List ℕ) (child : Bool) → word ≡ side_word child → is_word word (codes "child") ≡ child
unfolding chars
side_said word true is = ap (λ w. is_word w (codes "child")) is
side_said word false is = ap (λ w. is_word w (codes "child")) is

pub given_is : (word text copy : List ℕ) (node : Field) (stage : Stage) (test : Bool) → node ≡ Text text → copy ≡ text → test ≡ is_word word (codes "given") → test ≡ true
    → word ≡ stage_word stage → node ≡ stage_node stage → Given copy ≡ stage
unfolding chars
given_is word text copy node Waiting test there same is pass said at = absurd (null_text (sym at ∙ there))
given_is word text copy node (Given other) test there same is pass said at = ap Given (same ∙ text_is (sym there ∙ at))
given_is word text copy node (Closed other) test there same is pass said at =
    absurd (other_way (sym is ∙ pass) (ap (λ w. is_word w (codes "given")) said))

pub closed_is : (word text copy : List ℕ) (node : Field) (stage : Stage) (test : Bool) → node ≡ Text text → copy ≡ text → test ≡ is_word word (codes "given") → test ≡ false
    → word ≡ stage_word stage → node ≡ stage_node stage → Closed copy ≡ stage
unfolding chars
closed_is word text copy node Waiting test there same is fail said at = absurd (null_text (sym at ∙ there))
closed_is word text copy node (Given other) test there same is fail said at =
    absurd (other_way (ap (λ w. is_word w (codes "given")) said) (sym is ∙ fail))
closed_is word text copy node (Closed other) test there same is fail said at = ap Closed (same ∙ text_is (sym there ∙ at))

pub new_is : (word : List ℕ) (now : Standing) (test : Bool) → test ≡ is_word word (codes "NE") → test ≡ true → word ≡ name_of now → Some New ≡ Some now
unfolding chars
new_is word New test is pass said = refl
new_is word (Erred row rule) test is pass said = absurd (other_way (sym is ∙ pass) (ap (λ w. is_word w (codes "NE")) said))
new_is word Acked test is pass said = absurd (other_way (sym is ∙ pass) (ap (λ w. is_word w (codes "NE")) said))

pub acked_is : (word : List ℕ) (now : Standing) (test : Bool) → test ≡ is_word word (codes "OK") → test ≡ true → word ≡ name_of now → Some Acked ≡ Some now
unfolding chars
acked_is word New test is pass said = absurd (other_way (sym is ∙ pass) (ap (λ w. is_word w (codes "OK")) said))
acked_is word (Erred row rule) test is pass said = absurd (other_way (sym is ∙ pass) (ap (λ w. is_word w (codes "OK")) said))
acked_is word Acked test is pass said = refl

two_fields : {a b c d : Field} → (a ∷ (b ∷ [])) ≡ (c ∷ (d ∷ [])) → (a ≡ c) × (b ≡ d)
two_fields {a} {b} {c} {d} same = (cc, cc)

pub erred_is : (word : List ℕ) (row rule : Field) (now : Standing) (new ok : Bool) (told : Option Standing) → new ≡ is_word word (codes "NE") → new ≡ false
    → ok ≡ is_word word (codes "OK") → ok ≡ false
    → ((at because : ℕ) → IsNarrow at → because < 256 → row ≡ number_field at → rule ≡ number_field because → told ≡ Some (Erred at because))
    → IsHeldStanding now → word ≡ name_of now → (row ∷ (rule ∷ [])) ≡ error_fields now → told ≡ Some now
unfolding chars
erred_is word row rule New new ok told is not_new ok_is not_ok read held said fields = absurd (other_way (ap (λ w. is_word w (codes "NE")) said) (sym is ∙ not_new))
erred_is word row rule Acked new ok told is not_new ok_is not_ok read held said fields = absurd (other_way (ap (λ w. is_word w (codes "OK")) said) (sym ok_is ∙ not_ok))
erred_is word row rule (Erred at because) new ok told is not_new ok_is not_ok read held said fields =
    let both = two_fields fields in
    read at because held.0 held.1 both.0 both.1

pub status_is : (status : Field) (word : List ℕ) (test : Bool) (ignored : Option Bool) → status ≡ Text word → test ≡ is_word word (codes "IG") → status ≡ status_field ignored → Some test ≡ ignored
unfolding chars
status_is status word test None there is at = absurd (null_text (sym at ∙ there))
status_is status word test (Some true) there is at = ap Some (is ∙ ap (λ w. is_word w (codes "IG")) (text_is (sym there ∙ at)))
status_is status word test (Some false) there is at = ap Some (is ∙ ap (λ w. is_word w (codes "IG")) (text_is (sym there ∙ at)))

pub insert_is : (word : List ℕ) (event : Event) (test : Bool) → test ≡ is_word word (codes "I") → test ≡ true → word ≡ event_word event → Insert ≡ event
unfolding chars
insert_is word Insert test is pass said = refl
insert_is word Update test is pass said = absurd (other_way (sym is ∙ pass) (ap (λ w. is_word w (codes "I")) said))
insert_is word Delete test is pass said = absurd (other_way (sym is ∙ pass) (ap (λ w. is_word w (codes "I")) said))

pub update_is : (word : List ℕ) (event : Event) (test : Bool) → test ≡ is_word word (codes "U") → test ≡ true → word ≡ event_word event → Update ≡ event
unfolding chars
update_is word Insert test is pass said = absurd (other_way (sym is ∙ pass) (ap (λ w. is_word w (codes "U")) said))
update_is word Update test is pass said = refl
update_is word Delete test is pass said = absurd (other_way (sym is ∙ pass) (ap (λ w. is_word w (codes "U")) said))

pub delete_is : (word : List ℕ) (event : Event) (insert update : Bool) → insert ≡ is_word word (codes "I") → insert ≡ false → update ≡ is_word word (codes "U") → update ≡ false → word ≡ event_word event
    → Delete ≡ event
unfolding chars
delete_is word Insert insert update is fail update_is update_fail said = absurd (other_way (ap (λ w. is_word w (codes "I")) said) (sym is ∙ fail))
delete_is word Update insert update is fail update_is update_fail said = absurd (other_way (ap (λ w. is_word w (codes "U")) said) (sym update_is ∙ update_fail))
delete_is word Delete insert update is fail update_is update_fail said = refl
