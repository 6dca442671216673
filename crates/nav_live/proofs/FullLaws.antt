-- A live script makes no more requests than a history takes, so no lane of it meets a full history.
use Rattle.std.proofs.Common.{◌≡◌, ◌∙◌, refl, sym, ap, subst, inl, inr, ℕ, ◌+◌, ◌<◌, ◌≤◌, ◌==◌, Bool, true, false, cond, List, [], ◌∷◌, length, get_or, All, arith, eq-eqb}
use Rattle.std.specs.Prelude.{not, ◌&&◌, if◌then◌else◌}
use Rattle.std.specs.List.{count_by, range_with_len, sum_by}
use Rattle.std.proofs.lemmas.Bool.{and_parts, eqb-true}
use Rattle.std.proofs.lemmas.List.FromFn.{get_or-range_with_len, length-range_with_len}
use Rattle.std.proofs.lemmas.List.Sums.{get_or-le-sum_by, sum_by-append, sum_by-cons}
use Rattle.std.proofs.lemmas.Option.{slice_get_cases}
use Rattle.turn_lock.specs.Locks.{LockId, PassView}
use Rattle.turn_lock.proofs.GrowthLemmas.{Extends-length}
use Rattle.nav_ground.specs.declared.history.Entry.{Entry}
use Rattle.nav_ground.specs.History.{history_limit}
use Rattle.mesh_types.proofs.Totals.{once_in_range, sum_by-exchanged, sum_by-no_more, sum_by-one, sum_by-plus, sum_by-range_no_more, sum_by-same, sum_by-zero}
use Rattle.nav_script.specs.declared.script.Line.{Line}
use Rattle.nav_script.specs.declared.script.Script.{Script}
use Rattle.nav_script.specs.declared.script.Way.TheVariants.{Live}
use Rattle.nav_script.specs.Lanes.{is_request, next_lane, lines_from, lines_of, names_lane}
use Rattle.nav_script.specs.Limits.{IsScript}
use Rattle.nav_live.specs.Roots.{RootView}
use Rattle.nav_live.specs.LaneEntries.{entries_made}
use Rattle.nav_live.specs.Stops.{HasMetFull}
use Rattle.nav_live.proofs.EntryLaws.{entries_extended}
use Rattle.nav_live.proofs.RecordLaws.{entries_made-count}
use Rattle.nav_live.specs.Leavings.{HaveMetFull}
use Rattle.nav_live.specs.LaneLines.{requests_of}
use Rattle.nav_live.specs.Joined.{HaveAsked, IsClosed}

-- a number of a range is there
one_there : (count number : ℕ) → number < count → 1 ≤ sum_by (λ n. cond (number == n) 1 0) (range_with_len 0 count)
one_there count number below =
    let range : List ℕ = range_with_len 0 count in
    let there : number < length range = omega (arith, below, length-range_with_len 0 count) in
    let same : number ≡ get_or range number 0 = omega (arith, get_or-range_with_len 0 count number 0 below) in
    let n : ℕ = cond (number == get_or range number 0) 1 0 in
    let one : n ≡ 1 = ap (λ b. cond b 1 0) (eq-eqb number (get_or range number 0) same) in
    let least : n ≤ sum_by (λ n. cond (number == n) 1 0) range = get_or-le-sum_by (λ n. cond (number == n) 1 0) range number 0 there in
    omega (arith, one, least)

-- each entry is one of its lane, so the lanes of a history have made no fewer entries than there are
entries_in_all : (lanes : ℕ) (history : List Entry) → All (λ (entry : Entry). entry.lane < lanes) history
    → length history ≤ sum_by (λ lane. length (entries_made lane history)) (range_with_len 0 lanes)
entries_in_all lanes history below =
    let range : List ℕ = range_with_len 0 lanes in
    let of : ℕ → Entry → ℕ = λ lane entry. cond (entry.lane == lane) 1 0 in
    let counted : sum_by (λ lane. length (entries_made lane history)) range ≡ sum_by (λ entry. sum_by (λ lane. of lane entry) range) history =
    sum_by-same (λ lane. length (entries_made lane history)) (λ lane. sum_by (of lane) history) range (λ lane. entries_made-count lane history)
    ∙ sum_by-exchanged of range history in
    let each : sum_by (λ (entry : Entry). 1) history ≤ sum_by (λ entry. sum_by (λ lane. of lane entry) range) history =
    sum_by-no_more (λ (entry : Entry). 1) (λ entry. sum_by (λ lane. of lane entry) range) history
    (λ k d there. one_there lanes (get_or history k d).lane (below k d there)) in
    let all : sum_by (λ (entry : Entry). 1) history ≡ length history = sum_by-one history in
    omega (arith, counted, each, all)

-- a line goes to one lane at most, so the lanes' lines make no more requests than there are
one_share : (p : Line → Bool) (line : Line) (b : Bool) → count_by p (if b then line ∷ [] else []) ≡ cond b (cond (p line) 1 0) 0
one_share p line true = sum_by-cons (λ (l : Line). cond (p l) 1 0) line [] ∙ omega arith
one_share p line false = refl

pub requests_in_all : (lanes current : ℕ) (lines : List Line)
    → sum_by (λ lane. count_by is_request (lines_from lane current lines)) (range_with_len 0 lanes) ≤ count_by is_request lines
requests_in_all lanes current [] = omega (arith, sum_by-zero (range_with_len 0 lanes))
requests_in_all lanes current (line ∷ more) =
    let range : List ℕ = range_with_len 0 lanes in
    let takes : ℕ → Bool = λ lane. not (names_lane line) && current == lane in
    let one : ℕ = cond (is_request line) 1 0 in
    let later : ℕ → ℕ = λ lane. count_by is_request (lines_from lane (next_lane current line) more) in
    let parts : sum_by (λ lane. count_by is_request (lines_from lane current (line ∷ more))) range ≡ sum_by (λ lane. cond (takes lane) one 0) range + sum_by later range =
    sum_by-same (λ lane. count_by is_request (lines_from lane current (line ∷ more))) (λ lane. cond (takes lane) one 0 + later lane) range
    (λ lane. sum_by-append (λ (l : Line). cond (is_request l) 1 0) (if takes lane then line ∷ [] else []) (lines_from lane (next_lane current line) more)
    ∙ ap (λ (n : ℕ). n + later lane) (one_share is_request line (takes lane)))
    ∙ sum_by-plus (λ lane. cond (takes lane) one 0) later range in
    let share : sum_by (λ lane. cond (takes lane) one 0) range ≤ one =
    once_in_range takes one 0 lanes
    (λ i j less below is_i is_j.
    let at_i : current ≡ i = eqb-true current i (and_parts (not (names_lane line)) (current == i) is_i).1 in
    let at_j : current ≡ j = eqb-true current j (and_parts (not (names_lane line)) (current == j) is_j).1 in
    omega (arith, less, at_i, at_j)) in
    let rest : sum_by later range ≤ count_by is_request more = requests_in_all lanes (next_lane current line) more in
    let whole : count_by is_request (line ∷ more) ≡ one + count_by is_request more = sum_by-cons (λ (l : Line). cond (is_request l) 1 0) line more in
    omega (arith, parts, share, rest, whole)

-- a sum with one term less and no term greater is less
sum_less : (f g : ℕ → ℕ) (count place : ℕ) → place < count → ((k : ℕ) → k < count → f k ≤ g k) → f place < g place
    → sum_by f (range_with_len 0 count) < sum_by g (range_with_len 0 count)
sum_less f g count place below each less =
    let range : List ℕ = range_with_len 0 count in
    let more : sum_by (λ k. f k + cond (place == k) 1 0) range ≤ sum_by g range =
    sum_by-range_no_more (λ k. f k + cond (place == k) 1 0) g 0 count (λ k least most. by_case k (place == k) refl (each k (omega (arith, most)))) in
    let parts : sum_by (λ k. f k + cond (place == k) 1 0) range ≡ sum_by f range + sum_by (λ k. cond (place == k) 1 0) range =
    sum_by-plus f (λ k. cond (place == k) 1 0) range in
    omega (arith, more, parts, one_there count place below)
  where
    by_case : (k : ℕ) (b : Bool) → (place == k) ≡ b → f k ≤ g k → f k + cond b 1 0 ≤ g k
    by_case k true is at_most =
        let same : place ≡ k = eqb-true place k is in
        let less' : f k < g k = subst (λ (n : ℕ). f n < g n) same less in
        omega (arith, less')
    by_case k false is at_most = omega (arith, at_most)

-- each entry is of one of the passes, which are numbered in order
made_within : (lock : LockId RootView) (script : Script) (passes : List (PassView RootView Entry)) (history : List Entry) → IsClosed lock passes history → HaveAsked script passes
    → All (λ (entry : Entry). entry.lane < length passes) history
made_within lock script passes history closed asked k d there =
    let maker = closed.made k d there in
    let number = asked.numbers maker.0 maker.1 maker.2 in
    let own : (get_or passes maker.0 maker.1).number ≡ (get_or history k d).lane = ap (λ (p : PassView RootView Entry). p.number) maker.3 ∙ maker.4 in
    let within : maker.0 < length passes = maker.2 in
    omega (arith, number, own, within)

-- the entries of a pass in the history are those that it has seen of its own
own_in_all : (lock : LockId RootView) (script : Script) (passes : List (PassView RootView Entry)) (history : List Entry) (k : ℕ) (d : PassView RootView Entry)
    → IsClosed lock passes history → HaveAsked script passes → k < length passes
    → entries_made k history ≡ entries_made k (get_or passes k d).seen
own_in_all lock script passes history k d closed asked there =
    subst (λ (n : ℕ). entries_made n history ≡ entries_made n (get_or passes k d).seen) (asked.numbers k d there)
    (entries_extended (get_or passes k d).number (get_or passes k d).seen history (closed.extends k d there))

-- where no pass of a closed lock has made more entries than the lines of its number make requests, none of them met a full history
not_full : (lock : LockId RootView) (script : Script) (passes : List (PassView RootView Entry)) (history : List Entry) (k : ℕ) (d : PassView RootView Entry)
    → IsScript Live script → IsClosed lock passes history → HaveAsked script passes → k < length passes
    → HasMetFull (lines_of k script.lines) (get_or passes k d) → ⊥
not_full lock script passes history k d rules closed asked there met =
    let pass : PassView RootView Entry = get_or passes k d in
    let count : ℕ = length passes in
    let made : ℕ → ℕ = λ lane. length (entries_made lane history) in
    let asks : ℕ → ℕ = λ lane. requests_of lane script.lines in
    let range : List ℕ = range_with_len 0 count in
    let most : (n : ℕ) → n < count → made n ≤ asks n =
    λ n below. (let same : made n ≡ length (entries_made n (get_or passes n d).seen) = ap length (own_in_all lock script passes history n d closed asked below) in
    omega (arith, same, asked.most n d below)) in
    let own : made k ≡ length (entries_made pass.number pass.seen) =
    ap length (own_in_all lock script passes history k d closed asked there) ∙ ap (λ (n : ℕ). length (entries_made n pass.seen)) (sym (asked.numbers k d there)) in
    let fewer : made k < asks k = omega (arith, own, met.fewer) in
    let all : length history ≤ sum_by made range = entries_in_all count history (made_within lock script passes history closed asked) in
    let less : sum_by made range < sum_by asks range = sum_less made asks count k there most fewer in
    let within : sum_by asks range ≤ count_by is_request script.lines = requests_in_all count 0 script.lines in
    let limit : count_by is_request script.lines ≤ history_limit = rules.requests refl in
    let seen : length pass.seen ≤ length history = Extends-length (λ (entry : Entry). entry.lane) pass.number pass.seen history (closed.extends k d there) in
    omega (arith, all, less, within, limit, seen, met.full)

pub never_full : (lock : LockId RootView) (script : Script) (passes : List (PassView RootView Entry)) (history : List Entry) → IsScript Live script
    → IsClosed lock passes history → HaveMetFull script passes → ⊥
never_full lock script passes history rules closed met =
    elim (slice_get_cases passes met.lane).1 [
      | inl at ↦ not_full lock script passes history met.lane at.0 rules closed met.asked met.there (met.full at.0)
      | inr past ↦ omega (arith, past.0, met.there)
    ]
