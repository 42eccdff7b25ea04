-- What a reader was fed and what was taken of it make up its text, through each call.
use Rattle.std.proofs.Common.{subst, ◌≡◌, ◌≢◌, ℕ, List, [], ◌∷◌, ◌++◌, refl, sym, ap, ◌∙◌, Bool, true, false, Option, Some, None, Result, Err, append_assoc}
use Rattle.std.proofs.lemmas.List.{append-nil}
use Rattle.sds_line.specs.declared.line.Line.{Line}
use Rattle.sds_line.specs.declared.lines.Phase.{Phase}
use Rattle.sds_line.specs.declared.lines.Phase.TheVariants.{Open, Due, Over, Spent}
use Rattle.sds_line.specs.declared.refusal.LineRefusal.{LineRefusal}
use Rattle.sds_line.specs.declared.refusal.LineRefusal.TheVariants.{BareQuote, OpenQuote, BadEscape, LineTooLong, NotUtf8, NoMemory}
use Rattle.sds_line.specs.Splitting.{LastLine, Split, Fed, Follows, Answers, and_then, behind, line_at, split, lines_in, left, next_of, without_first, is_settled, is_finished, is_spent}
use Rattle.sds_line.proofs.Seams.{split_append}

pub behind_then : (taken : List Line) (s : Split) (f : LastLine → Split) → behind taken (and_then s f) ≡ and_then (behind taken s) f
behind_then taken s f = at s.lines s.stop s.last
  where
    at : (lines : List Line) (stop : Option LineRefusal) (last : LastLine) →
        behind taken (and_then (record { lines = lines; stop = stop; last = last }) f) ≡ and_then (behind taken (record { lines = lines; stop = stop; last = last })) f
    at lines (Some refusal) last = refl
    at lines None last = ap (λ (ls : List Line). record { lines = ls; stop = (f last).stop; last = (f last).last }) (sym (append_assoc taken lines (f last).lines))

-- a piece more
pub follows_more : (phase : Phase) (s new : Split) (text piece : List ℕ) (taken : List Line) → new ≡ and_then s (λ u. split u piece) → Follows text taken false (record { phase = phase; split = s }) → Follows (text ++ piece) taken false (record { phase = phase; split = new })
follows_more Open s new text piece taken is f = record {
  reads = ap (behind taken) is ∙ (behind_then taken s (λ u. split u piece) ∙ (ap (λ (t : Split). and_then t (λ u. split u piece)) f.reads ∙ sym (split_append (line_at 1) text piece)));
  phase = refl;
  whole = refl;
}
follows_more Due s new text piece taken is f = let e = f.phase in absurd (cc)
follows_more Over s new text piece taken is f = let e = f.phase in absurd (cc)
follows_more Spent s new text piece taken is f = let e = f.whole in absurd (cc)

-- the reader's own phase does not matter to what it has left
settled_left : (phase : Phase) (s : Split) → is_settled phase ≡ true → left (record { phase = phase; split = s }) ≡ s
settled_left Open s is = refl
settled_left Due s is = absurd (cc)
settled_left Over s is = refl
settled_left Spent s is = absurd (cc)

settled_whole : (phase : Phase) → is_settled phase ≡ true → is_spent phase ≡ false
settled_whole Open is = refl
settled_whole Due is = absurd (cc)
settled_whole Over is = refl
settled_whole Spent is = absurd (cc)

follows_at : (phase : Phase) (new : Split) (text : List ℕ) (taken : List Line) (finished : Bool) → is_settled phase ≡ true → is_finished phase ≡ finished → behind taken new ≡ lines_in finished text → Follows text taken finished (record { phase = phase; split = new })
follows_at phase new text taken finished settled is reads = record {
  reads = ap (behind taken) (settled_left phase new settled) ∙ reads;
  phase = is;
  whole = settled_whole phase settled;
}

-- what is next of what is left
answer_at : (phase : Phase) (lines : List Line) (stop : Option LineRefusal) (last : LastLine) (text : List ℕ) (taken : List Line) (finished : Bool) →
    is_settled phase ≡ true → is_finished phase ≡ finished → behind taken (record { lines = lines; stop = stop; last = last }) ≡ lines_in finished text →
    next_of (record { lines = lines; stop = stop; last = last }) ≢ Err NoMemory →
    Answers text taken finished (next_of (record { lines = lines; stop = stop; last = last })) (record { phase = phase; split = without_first (record { lines = lines; stop = stop; last = last }) })
answer_at phase (line ∷ lines) stop last text taken finished settled is reads memory =
    follows_at phase (record { lines = lines; stop = stop; last = last }) text (taken ++ line ∷ []) finished settled is
    (ap (λ (ls : List Line). record { lines = ls; stop = stop; last = last }) (append_assoc taken (line ∷ []) lines) ∙ reads)
answer_at phase [] None last text taken finished settled is reads memory = (
  record { all = ap (λ (s : Split). s.lines) (sym reads) ∙ append-nil taken; behind_all = ap (λ (s : Split). s.stop) (sym reads) },
  follows_at phase (record { lines = []; stop = None; last = last }) text taken finished settled is reads,
)
answer_at phase [] (Some BareQuote) last text taken finished settled is reads memory = (
  record { all = ap (λ (s : Split). s.lines) (sym reads) ∙ append-nil taken; behind_all = ap (λ (s : Split). s.stop) (sym reads) },
  follows_at phase (record { lines = []; stop = Some BareQuote; last = last }) text taken finished settled is reads,
)
answer_at phase [] (Some OpenQuote) last text taken finished settled is reads memory = (
  record { all = ap (λ (s : Split). s.lines) (sym reads) ∙ append-nil taken; behind_all = ap (λ (s : Split). s.stop) (sym reads) },
  follows_at phase (record { lines = []; stop = Some OpenQuote; last = last }) text taken finished settled is reads,
)
answer_at phase [] (Some BadEscape) last text taken finished settled is reads memory = (
  record { all = ap (λ (s : Split). s.lines) (sym reads) ∙ append-nil taken; behind_all = ap (λ (s : Split). s.stop) (sym reads) },
  follows_at phase (record { lines = []; stop = Some BadEscape; last = last }) text taken finished settled is reads,
)
answer_at phase [] (Some LineTooLong) last text taken finished settled is reads memory = (
  record { all = ap (λ (s : Split). s.lines) (sym reads) ∙ append-nil taken; behind_all = ap (λ (s : Split). s.stop) (sym reads) },
  follows_at phase (record { lines = []; stop = Some LineTooLong; last = last }) text taken finished settled is reads,
)
answer_at phase [] (Some NotUtf8) last text taken finished settled is reads memory = (
  record { all = ap (λ (s : Split). s.lines) (sym reads) ∙ append-nil taken; behind_all = ap (λ (s : Split). s.stop) (sym reads) },
  follows_at phase (record { lines = []; stop = Some NotUtf8; last = last }) text taken finished settled is reads,
)
answer_at phase [] (Some NoMemory) last text taken finished settled is reads memory = absurd (memory refl)

pub answer_next : (old v : Fed) (phase : Phase) (s new : Split) (result : Result (Option Line) LineRefusal) (text : List ℕ) (taken : List Line) (finished : Bool) →
    left v ≡ left old → is_settled v.phase ≡ true → is_finished v.phase ≡ is_finished old.phase → record { phase = phase; split = s } ≡ v →
    result ≡ next_of s → new ≡ without_first s → result ≢ Err NoMemory → Follows text taken finished old →
    Answers text taken finished result (record { phase = phase; split = new })
answer_next old v phase s new result text taken finished same settled finish view answer rest memory f =
    let settled_here : is_settled phase ≡ true = ap (λ (w : Fed). is_settled w.phase) view ∙ settled in
    let finish_here : is_finished phase ≡ finished = ap (λ (w : Fed). is_finished w.phase) view ∙ (finish ∙ f.phase) in
    let reads : behind taken s ≡ lines_in finished text = ap (behind taken) (sym (settled_left phase s settled_here) ∙ (ap left view ∙ same)) ∙ f.reads in
    subst (λ (r : Result (Option Line) LineRefusal). Answers text taken finished r (record { phase = phase; split = new })) (sym answer)
    (subst (λ (n : Split). Answers text taken finished (next_of s) (record { phase = phase; split = n })) (sym rest)
    (answer_at phase s.lines s.stop s.last text taken finished settled_here finish_here reads (λ e. memory (answer ∙ e))))
