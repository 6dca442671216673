-- How the entries of a lane grow with the history, and with the lines that the lane has run.
use Rattle.std.proofs.Common.{◌≡◌, ◌≢◌, ◌∙◌, refl, sym, ap, ℕ, ◌+◌, ◌==◌, true, false, List, [], ◌∷◌, ◌++◌, length, All, Option, Some, None, filter, fold, ne_eqb, eq-eqb, append-nil, arith, length-append}
use Rattle.std.specs.List.{cons_option, enumerate_from}
use Rattle.std.proofs.lemmas.List.Elements.{All-head, All-tail, filter-append}
use Rattle.turn_lock.specs.Growth.{Extends}
use Rattle.nav_ground.specs.declared.history.Entry.{Entry}
use Rattle.nav_live.specs.LaneEntries.{Spoken, adds_of, adds_with, entries_from, entries_made, entry_said}
use Rattle.nav_live.specs.Lanes.{AreEntries}

-- the numbers of what follows go on from the length of what is before it
pub enumerate_from-append : {A : Type 0} (n : ℕ) (xs ys : List A) → enumerate_from n (xs ++ ys) ≡ enumerate_from n xs ++ enumerate_from (n + length xs) ys
enumerate_from-append n [] ys = ap (λ k. enumerate_from k ys) (omega arith)
enumerate_from-append n (x ∷ xs) ys =
    let more = enumerate_from-append (n + 1) xs ys in
    let count : n + 1 + length xs ≡ n + length (x ∷ xs) = omega arith in
    ap (λ rest. (n, x) ∷ rest) (more ∙ ap (λ k. enumerate_from (n + 1) xs ++ enumerate_from k ys) count)

-- entries of other lanes are none of the lane
none_of_others : (lane n : ℕ) (rest : List Entry) → All (λ (e : Entry). e.lane ≢ lane) rest → filter (λ (entry : ℕ × Entry). entry.1.lane == lane) (enumerate_from n rest) ≡ []
none_of_others lane n [] others = refl
none_of_others lane n (e ∷ rest) others =
    let other : (e.lane == lane) ≡ false = ne_eqb e.lane lane (All-head (λ (e : Entry). e.lane ≢ lane) e rest others) in
    rw other (none_of_others lane (n + 1) rest (All-tail (λ (e : Entry). e.lane ≢ lane) e rest others))

-- a history that goes on by entries of other lanes has the same entries of the lane
pub entries_extended : (lane : ℕ) (seen now : List Entry) → Extends (λ (e : Entry). e.lane) lane seen now → entries_made lane now ≡ entries_made lane seen
entries_extended lane seen now extends =
    let test = λ (entry : ℕ × Entry). entry.1.lane == lane in
    ap (entries_made lane) extends.longer
    ∙ ap (filter test) (enumerate_from-append 1 seen extends.rest)
    ∙ filter-append test (enumerate_from 1 seen) (enumerate_from (1 + length seen) extends.rest)
    ∙ ap (λ more. entries_made lane seen ++ more) (none_of_others lane (1 + length seen) extends.rest extends.others)
    ∙ append-nil (entries_made lane seen)

-- one entry more of the lane
pub entries_one_more : (history : List Entry) (e : Entry) → entries_made e.lane (history ++ e ∷ []) ≡ entries_made e.lane history ++ (length (history ++ e ∷ []), e) ∷ []
entries_one_more history e =
    let test = λ (entry : ℕ × Entry). entry.1.lane == e.lane in
    let own : (e.lane == e.lane) ≡ true = eq-eqb e.lane e.lane refl in
    let count : 1 + length history ≡ length (history ++ e ∷ []) = omega (arith, length-append history (e ∷ [])) in
    let last : filter test (enumerate_from (1 + length history) (e ∷ [])) ≡ (1 + length history, e) ∷ [] = rw own refl in
    ap (filter test) (enumerate_from-append 1 history (e ∷ []))
    ∙ filter-append test (enumerate_from 1 history) (enumerate_from (1 + length history) (e ∷ []))
    ∙ ap (λ more. entries_made e.lane history ++ more) (last ∙ ap (λ k. (k, e) ∷ []) count)

cons_option-append : {A : Type 0} (x : Option A) (xs ys : List A) → cons_option x (xs ++ ys) ≡ cons_option x xs ++ ys
cons_option-append None xs ys = refl
cons_option-append (Some x) xs ys = refl

-- what lines say, and then one line more
pub entries_from-append : (lane : ℕ) (adds : List ℕ) (spoken : List Spoken) (one : Spoken)
    → entries_from lane adds (spoken ++ one ∷ []) ≡ entries_from lane adds spoken ++ cons_option (entry_said lane (fold adds_with adds spoken) one.0 one.1) []
entries_from-append lane adds [] one = refl
entries_from-append lane adds (first ∷ more) one =
    ap (cons_option (entry_said lane adds first.0 first.1)) (entries_from-append lane (adds_with adds first) more one)
    ∙ cons_option-append (entry_said lane adds first.0 first.1) (entries_from lane (adds_with adds first) more)
    (cons_option (entry_said lane (fold adds_with (adds_with adds first) more) one.0 one.1) [])

-- what one line more adds to the entries that are said
pub entries_said-one_more : (lane : ℕ) (spoken : List Spoken) (one : Spoken)
    → entries_from lane [] (spoken ++ one ∷ []) ≡ entries_from lane [] spoken ++ cons_option (entry_said lane (adds_of spoken) one.0 one.1) []
entries_said-one_more lane spoken one = entries_from-append lane [] spoken one

-- a line that leaves no entry keeps the entries
pub entries_of_no_request : (history : List Entry) (lane : ℕ) (spoken : List Spoken) (one : Spoken) → entry_said lane (adds_of spoken) one.0 one.1 ≡ None
    → AreEntries history lane spoken → AreEntries history lane (spoken ++ one ∷ [])
entries_of_no_request history lane spoken one none are =
    are ∙ sym (entries_said-one_more lane spoken one ∙ ap (λ said. entries_from lane [] spoken ++ cons_option said []) none ∙ append-nil (entries_from lane [] spoken))

-- the entry that a request line left comes to both
pub entries_of_request : (history : List Entry) (e : Entry) (spoken : List Spoken) (one : Spoken)
    → entry_said e.lane (adds_of spoken) one.0 one.1 ≡ Some (length (history ++ e ∷ []), e)
    → AreEntries history e.lane spoken → AreEntries (history ++ e ∷ []) e.lane (spoken ++ one ∷ [])
entries_of_request history e spoken one is are =
    entries_one_more history e
    ∙ ap (λ made. made ++ (length (history ++ e ∷ []), e) ∷ []) are
    ∙ sym (entries_said-one_more e.lane spoken one ∙ ap (λ said. entries_from e.lane [] spoken ++ cons_option said []) is)
