-- What the parts of a script write.
use Rattle.std.proofs.Common.{◌≡◌, ℕ, ◌+◌, ◌*◌, ◌%◌, ◌≤◌, List, [], ◌∷◌, ◌++◌, map, cond, codes, Ok, Err, refl, sym, ap, ◌∙◌, subst, arith, append_assoc, append-nil}
use Rattle.std.specs.Prelude.{Result, OnOk, is_ok}
use Rattle.std.specs.List.{range_with_len, flat_map}
use Rattle.std.specs.Fmt.{digits}
use Rattle.nav_text.specs.Lines.{ended, text_of}
use Rattle.nav_text.specs.Forms.{line_text}
use Rattle.nav_script.specs.declared.script.Line.{Line}
use Rattle.nav_script.specs.declared.script.Line.TheVariants.{Ask, Add}
use Rattle.nav_script.specs.Spelling.{line_of}
use Rattle.nav_gen.specs.Draws.{next_state, state_after, draw}
use Rattle.nav_gen.specs.MadeScript.{made_shape, made_question, made_drop, made_builds, made_round, made_rounds}
use Rattle.nav_gen.proofs.DrawLaws.{state_after-add}
use Rattle.nav_gen.proofs.Gathered.{piece_more, text_of-append, text_of-gathered}

those_append : (some more : List Line) → text_of (map line_of (some ++ more)) ≡ text_of (map line_of some) ++ text_of (map line_of more)
those_append some more = ap text_of (map_two some more) ∙ text_of-append (map line_of some) (map line_of more)
  where
    map_two : (xs ys : List Line) → map line_of (xs ++ ys) ≡ map line_of xs ++ map line_of ys
    map_two [] ys = refl
    map_two (x ∷ xs) ys = ap (λ ls. line_of x ∷ ls) (map_two xs ys)

-- a new obstacle from three draws
pub add_written : {E : Type 0} (r : Result (Unit {0}) E) (old new : List ℕ) (state size cx cz radius one two : ℕ)
    → cx ≡ draw state 0 → one ≡ next_state state → cz ≡ draw one 0 → two ≡ next_state one → radius ≡ draw two 0
    → OnOk r (new ≡ old ++ ended (line_text (codes "add cylinder") (cx % (2 * size + 1) ∷ cz % (2 * size + 1) ∷ radius % 8 ∷ 0 ∷ 100 ∷ [])))
    → OnOk r (new ≡ old ++ ended (line_of (Add (made_shape state size))))
add_written r old new state size cx cz radius one two first after second behind third pushed =
    let P : ℕ → ℕ → ℕ → Type 0 = λ x z n.
    OnOk r (new ≡ old ++ ended (line_text (codes "add cylinder") (x % (2 * size + 1) ∷ z % (2 * size + 1) ∷ n % 8 ∷ 0 ∷ 100 ∷ []))) in
    let z_is : cz ≡ draw state 1 = second ∙ ap (λ s. draw s 0) after in
    let radius_is : radius ≡ draw state 2 = third ∙ ap (λ s. draw s 0) (behind ∙ ap next_state after) in
    subst (λ x. P x (draw state 1) (draw state 2)) first (subst (λ z. P cx z (draw state 2)) z_is (subst (P cx cz) radius_is pushed))

-- the lines that have tiles built and published
builds_text : codes "aim\n" ++ flat_map (λ (turn : ℕ). codes "claim 0\nsubmit 0\n") (range_with_len 0 8) ++ codes "publish\n" ≡ text_of (map line_of made_builds)
unfolding digits made_builds
builds_text = refl

pub builds_written : {E : Type 0} (r : Result (Unit {0}) E) (old made new : List ℕ) (turns : ℕ)
    → made ≡ old ++ codes "aim\n" ++ flat_map (λ (turn : ℕ). codes "claim 0\nsubmit 0\n") (range_with_len 0 turns) → turns ≤ 8 → 8 ≤ turns
    → new ≡ cond (is_ok r) (made ++ codes "publish\n") made → OnOk r (new ≡ old ++ text_of (map line_of made_builds))
builds_written (Err error) old made new turns before most least pushed = tt
builds_written (Ok done) old made new turns before most least pushed =
    let pairs : ℕ → List ℕ = λ n. flat_map (λ (turn : ℕ). codes "claim 0\nsubmit 0\n") (range_with_len 0 n) in
    pushed
    ∙ ap (λ t. t ++ codes "publish\n") (before ∙ ap (λ n. old ++ codes "aim\n" ++ pairs n) {x = turns} {y = 8} (omega arith))
    ∙ regroup old (codes "aim\n") (pairs 8) (codes "publish\n")
    ∙ ap (λ t. old ++ t) builds_text
  where
    regroup : (old a b c : List ℕ) → old ++ a ++ b ++ c ≡ old ++ (a ++ b ++ c)
    regroup old a b c = simp append_assoc

-- the parts of a round, one behind another
round_text : (state size before : ℕ)
    → ended (line_of (Add (made_shape state size))) ++ (text_of (map line_of (made_drop before)) ++ (text_of (map line_of made_builds)
    ++ ended (line_of (Ask (made_question (state_after state 3) size))))) ≡ text_of (map line_of (made_round state size before))
unfolding made_round
round_text state size before =
    let ask = Ask (made_question (state_after state 3) size) in
    let add = ended (line_of (Add (made_shape state size))) in
    ap (λ t. add ++ t)
    (ap (λ t. text_of (map line_of (made_drop before)) ++ t)
    (ap (λ t. text_of (map line_of made_builds) ++ t) (sym (append-nil (ended (line_of ask)))) ∙ sym (those_append made_builds (ask ∷ [])))
    ∙ sym (those_append (made_drop before) (made_builds ++ (ask ∷ []))))

pub round_written : {E : Type 0} (r : Result (Unit {0}) E) (old one two three new : List ℕ) (state from size before : ℕ)
    → one ≡ old ++ ended (line_of (Add (made_shape state size))) → two ≡ one ++ text_of (map line_of (made_drop before))
    → three ≡ two ++ text_of (map line_of made_builds) → from ≡ state_after state 3
    → OnOk r (new ≡ three ++ ended (line_of (Ask (made_question from size))))
    → OnOk r (new ≡ old ++ text_of (map line_of (made_round state size before)))
round_written (Err error) old one two three new state from size before first second third at last = tt
round_written (Ok done) old one two three new state from size before first second third at last =
    last
    ∙ ap (λ s. three ++ ended (line_of (Ask (made_question s size)))) at
    ∙ ap (λ t. t ++ ended (line_of (Ask (made_question (state_after state 3) size))))
    (third ∙ ap (λ t. t ++ text_of (map line_of made_builds)) (second ∙ ap (λ t. t ++ text_of (map line_of (made_drop before))) first))
    ∙ regroup old (ended (line_of (Add (made_shape state size)))) (text_of (map line_of (made_drop before))) (text_of (map line_of made_builds))
    (ended (line_of (Ask (made_question (state_after state 3) size))))
    ∙ ap (λ t. old ++ t) (round_text state size before)
  where
    regroup : (old a b c d : List ℕ) → old ++ a ++ b ++ c ++ d ≡ old ++ (a ++ (b ++ (c ++ d)))
    regroup old a b c d = simp append_assoc

-- the round of a number
abbrev pub round_at : (state size before : ℕ) → List ℕ
round_at state size before = text_of (map line_of (made_round (state_after state (7 * before)) size before))

-- one round more
pub rounds_more : (start made new : List ℕ) (state size before draws after : ℕ) → made ≡ start ++ flat_map (round_at state size) (range_with_len 0 before)
    → draws ≡ state_after state (7 * before) → new ≡ made ++ text_of (map line_of (made_round draws size before)) → after ≡ state_after draws 7
    → (new ≡ start ++ flat_map (round_at state size) (range_with_len 0 (before + 1))) × (after ≡ state_after state (7 * (before + 1)))
rounds_more start made new state size before draws after so_far at pushed moved = (
  piece_more (round_at state size) before start made new so_far (pushed ∙ ap (λ s. made ++ text_of (map line_of (made_round s size before))) at),
  moved ∙ ap (λ s. state_after s 7) at ∙ sym (state_after-add state (7 * before) 7)
      ∙ ap (state_after state) {x = 7 * before + 7} {y = 7 * (before + 1)} (omega arith),
)

-- all rounds
pub rounds_written : (start made : List ℕ) (state size before : ℕ) → made ≡ start ++ flat_map (round_at state size) (range_with_len 0 before) → before ≤ 64 → 64 ≤ before
    → made ≡ start ++ text_of (map line_of (made_rounds state size))
unfolding made_rounds
rounds_written start made state size before so_far most least =
    so_far
    ∙ ap (λ k. start ++ flat_map (round_at state size) (range_with_len 0 k)) {x = before} {y = 64} (omega arith)
    ∙ ap (λ t. start ++ t) (text_of-gathered line_of (λ k. made_round (state_after state (7 * k)) size k) (range_with_len 0 64))
