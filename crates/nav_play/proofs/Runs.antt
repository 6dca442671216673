-- A run over the lines of a script under way.
use Rattle.std.proofs.Common.{◌≡◌, ℕ, ◌+◌, ◌<◌, ◌≤◌, List, [], ◌∷◌, ◌++◌, length, drop, get_or, ap, ◌∙◌, sym, subst, refl, append_assoc, append-nil}
use Rattle.std.proofs.lemmas.List.{drop_more, drop_all}
use Rattle.nav_script.specs.declared.script.Line.{Line}
use Rattle.nav_play.specs.PlayStates.{PlayState, state_after, state_after_all}
use Rattle.nav_play.specs.PlayRecord.{AddsSome, AreSaid}
use Rattle.nav_play.specs.Work.{jobs_from, jobs_of}

-- the line that is played next, and those behind it
pub next_line : (lines items : List Line) (done : ℕ) (d : Line) → items ≡ lines → done < length items
    → drop done lines ≡ get_or items done d ∷ drop (done + 1) lines
next_line lines items done d same there =
    subst (λ (xs : List Line). drop done lines ≡ get_or xs done d ∷ drop (done + 1) lines) (sym same)
    (drop_more lines done d (subst (λ (xs : List Line). done < length xs) same there))

-- no line is left
pub no_line : (lines items : List Line) (done : ℕ) → items ≡ lines → length items ≤ done → drop done lines ≡ []
no_line lines items done same end = drop_all done lines (subst (λ (xs : List Line). length xs ≤ done) same end)

-- after some of the lines: whatever the lines that are left say, behind what was said so far it is what all lines say from the first state
pub record IsUnderWay {A : Type 0} (Says : PlayState → Line → List A → Type 0) (first : PlayState) (lines : List Line) (done : ℕ) (state : PlayState) (list : List A) : Type 0 where
  pub goes_on : (rest : List A) → AreSaid Says state (drop done lines) rest → AreSaid Says first lines (list ++ rest)

-- no line was played
pub begun : {A : Type 0} (Says : PlayState → Line → List A → Type 0) (first : PlayState) (lines : List Line) (state : PlayState) (list : List A)
    → state ≡ first → list ≡ [] → IsUnderWay Says first lines 0 state list
begun {A} Says first lines state list same empty =
    let S : PlayState → List A → Type 0 = λ s t. (rest : List A) → AreSaid Says s lines rest → AreSaid Says first lines (t ++ rest) in
    let F : PlayState → Type 0 = λ s. S s list in
    let T : List A → Type 0 = λ t. S first t in
    record { goes_on = subst F (sym same) (subst T (sym empty) (λ rest to_come. to_come)) }

-- what a line says, and then what the lines behind it say
line_and_rest : {A : Type 0} (Says : PlayState → Line → List A → Type 0) (state next : PlayState) (this : Line) (lines : List Line) (said rest : List A)
    → Says state this said → next ≡ state_after state this → AreSaid Says next lines rest → AreSaid Says state (this ∷ lines) (said ++ rest)
unfolding AreSaid
line_and_rest Says state next this lines said rest fits next_is to_come = record {
  said = said;
  rest = rest;
  parts = refl;
  said_fits = fits;
  rest_fits = subst (λ (s : PlayState). AreSaid Says s lines rest) next_is to_come;
}

-- one more line
pub goes_on : {A : Type 0} (Says : PlayState → Line → List A → Type 0) (first : PlayState) (lines : List Line) (done : ℕ) (state next : PlayState) (list more : List A) (this : Line)
    → IsUnderWay Says first lines done state list
    → drop done lines ≡ this ∷ drop (done + 1) lines
    → AddsSome (Says state this) list more
    → next ≡ state_after state this
    → IsUnderWay Says first lines (done + 1) next more
goes_on {A} Says first lines done state next list more this way left adds next_is = record {
  goes_on = λ rest to_come.
      let all = line_and_rest Says state next this (drop (done + 1) lines) adds.said rest adds.fits next_is to_come in
      subst (λ (xs : List A). AreSaid Says first lines xs) (sym (append_assoc list adds.said rest) ∙ ap (λ (t : List A). t ++ rest) (sym adds.written))
      (way.goes_on (adds.said ++ rest) (subst (λ (ls : List Line). AreSaid Says state ls (adds.said ++ rest)) (sym left) all));
}

-- no line says nothing
at_end : {A : Type 0} (Says : PlayState → Line → List A → Type 0) (state : PlayState) → AreSaid Says state [] []
unfolding AreSaid
at_end Says state = refl

-- all lines were played
pub ended : {A : Type 0} (Says : PlayState → Line → List A → Type 0) (first : PlayState) (lines : List Line) (done : ℕ) (state : PlayState) (list : List A)
    → IsUnderWay Says first lines done state list → drop done lines ≡ [] → AreSaid Says first lines list
ended {A} Says first lines done state list way none =
    subst (λ (xs : List A). AreSaid Says first lines xs) (append-nil list)
    (way.goes_on [] (subst (λ (ls : List Line). AreSaid Says state ls []) (sym none) (at_end Says state)))

-- the state at the end
pub same_end : (lines : List Line) (done : ℕ) (state next : PlayState) (this : Line) → drop done lines ≡ this ∷ drop (done + 1) lines
    → next ≡ state_after state this → state_after_all next (drop (done + 1) lines) ≡ state_after_all state (drop done lines)
same_end lines done state next this left next_is =
    ap (λ (s : PlayState). state_after_all s (drop (done + 1) lines)) next_is ∙ ap (state_after_all state) (sym left)

-- the claims of the lines that are left
pub same_jobs : (lines : List Line) (done : ℕ) (state next : PlayState) (this : Line) → drop done lines ≡ this ∷ drop (done + 1) lines
    → next ≡ state_after state this → jobs_from state (drop done lines) ≡ jobs_of state this + jobs_from next (drop (done + 1) lines)
unfolding jobs_from
same_jobs lines done state next this left next_is =
    ap (jobs_from state) left ∙ ap (λ (s : PlayState). jobs_of state this + jobs_from s (drop (done + 1) lines)) (sym next_is)

pub no_jobs : (lines : List Line) (done : ℕ) (state : PlayState) → drop done lines ≡ [] → jobs_from state (drop done lines) ≡ 0
unfolding jobs_from
no_jobs lines done state none = ap (jobs_from state) none
