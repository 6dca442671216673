-- Lines that are given to the lanes one after the other come to the lines of each lane, and a lane can run those of a live script.
use Rattle.std.proofs.Common.{◌≡◌, ◌∙◌, refl, sym, ap, subst, inl, inr, ℕ, ◌+◌, ◌<◌, ◌≤◌, Bool, true, false, List, [], ◌∷◌, ◌++◌, length, take, drop, get_or, set, replicate, append-nil, append_assoc, arith, eq-eqb, ne_eqb}
use Rattle.std.specs.Prelude.{not, ◌&&◌, ◌==◌, if◌then◌else◌, All}
use Rattle.std.specs.List.{range_with_len}
use Rattle.std.proofs.lemmas.Bool.{and_parts, cases_eq, not-true}
use Rattle.std.proofs.lemmas.Int.{ints}
use Rattle.std.proofs.lemmas.Grind.{get_or-set_at}
use Rattle.std.proofs.lemmas.List.{drop_all, drop_more, get_or-replicate, get_or-set_other, length-replicate, length-set}
use Rattle.std.proofs.lemmas.List.Elements.{All-append, All-cons, All-head, All-map, All-nil, All-same, All-tail}
use Rattle.std.proofs.lemmas.List.FromFn.{fill_by_all}
use Rattle.std.proofs.lemmas.Option.{slice_get-get_or}
use Rattle.nav_base.specs.declared.point.Question.{Question}
use Rattle.nav_base.specs.declared.point.Question.TheVariants.{Floor, Path, Ray}
use Rattle.nav_base.specs.declared.point.Point.{Point}
use Rattle.nav_base.specs.Point.{HasCoordinates}
use Rattle.nav_query.specs.Questions.{IsAnswerable}
use Rattle.nav_script.specs.declared.script.Line.{Line}
use Rattle.nav_script.specs.declared.script.Line.TheVariants.{Lane, Ask, Add, Remove, Undo, Settle, Aim, Claim, Back, Submit, Publish, Jump, Hop, Send, March}
use Rattle.nav_script.specs.declared.script.Script.{Script}
use Rattle.nav_script.specs.declared.script.Way.TheVariants.{Live}
use Rattle.nav_script.specs.Lanes.{adds_before, next_lane, lines_from, lines_of, names_lane}
use Rattle.nav_script.specs.Limits.{IsLine, IsPlace, IsQuestion, IsScript}
use Rattle.nav_script.proofs.SpellingLaws.{script_shape}
use Rattle.nav_live.specs.LaneSteps.{IsRunnable}
use Rattle.nav_live.specs.LaneLines.{lines_by_lane, given}

-- so many of the lines are given: what each lane has, and what the lines left give it, are its lines
pub record AreGiven (lanes : ℕ) (lines : List Line) (done current : ℕ) (lists : List (List Line)) : Type 0 where
  pub count : length lists ≡ lanes
  pub here : current < lanes
  pub each : (lane : ℕ) → lane < lanes → get_or lists lane [] ++ lines_from lane current (drop done lines) ≡ lines_of lane lines

-- no line is given
pub none_given : (lanes : ℕ) (lines : List Line) (lists : List (List Line)) → 1 ≤ lanes → lists ≡ replicate lanes [] → AreGiven lanes lines 0 0 lists
none_given lanes lines lists some are = record {
  count = ap length are ∙ length-replicate {A = List Line} lanes [];
  here = omega (arith, some);
  each = λ lane below.
      (let empty : get_or lists lane [] ≡ [] = ap (λ (ls : List (List Line)). get_or ls lane []) are ∙ get_or-replicate {A = List Line} lanes lane [] [] below in
      ap (λ (front : List Line). front ++ lines_of lane lines) empty);
}

-- a line more is given: what a lane has then, and what the lines after it give, are as before
one_given : (lists : List (List Line)) (lane current : ℕ) (line : Line) (rest : List Line) → current < length lists
    → get_or (given lists current line) lane [] ++ lines_from lane (next_lane current line) rest ≡ get_or lists lane [] ++ lines_from lane current (line ∷ rest)
one_given lists lane current line rest there = by_case (names_lane line)
  where
    left : List Line
    left = lines_from lane (next_lane current line) rest

    longer : List Line
    longer = get_or lists current [] ++ line ∷ []

    own : lane ≡ current → get_or (set lists current longer) lane [] ++ left ≡ get_or lists lane [] ++ ((if current == lane then line ∷ [] else []) ++ left)
    own same =
        ap (λ (front : List Line). front ++ left) (get_or-set_at lists current lane longer [] same there)
        ∙ append_assoc (get_or lists current []) (line ∷ []) left
        ∙ ap (λ (k : ℕ). get_or lists k [] ++ (line ∷ [] ++ left)) (sym same)
        ∙ ap (λ (b : Bool). get_or lists lane [] ++ ((if b then line ∷ [] else []) ++ left)) (sym (eq-eqb current lane (sym same)))

    others : (lane ≡ current → ⊥) → get_or (set lists current longer) lane [] ++ left ≡ get_or lists lane [] ++ ((if current == lane then line ∷ [] else []) ++ left)
    others apart =
        ap (λ (front : List Line). front ++ left) (get_or-set_other lists current lane longer [] apart)
        ∙ ap (λ (b : Bool). get_or lists lane [] ++ ((if b then line ∷ [] else []) ++ left)) (sym (ne_eqb current lane (λ e. apart (sym e))))

    by_case : (b : Bool) → get_or (if b then lists else set lists current longer) lane [] ++ left
        ≡ get_or lists lane [] ++ ((if not b && current == lane then line ∷ [] else []) ++ left)
    by_case true = refl
    by_case false = elim (cases_eq lane current) [ inl same ↦ own same | inr apart ↦ others apart ]

-- as many lists as before
as_many : (lists : List (List Line)) (current : ℕ) (line : Line) → length (given lists current line) ≡ length lists
as_many lists current line = by_case (names_lane line)
  where
    by_case : (b : Bool) → length (if b then lists else set lists current (get_or lists current [] ++ line ∷ [])) ≡ length lists
    by_case true = refl
    by_case false = length-set lists current (get_or lists current [] ++ line ∷ [])

pub one_line_given : (lanes : ℕ) (lines items : List Line) (done current next : ℕ) (lists more : List (List Line)) (d : Line)
    → AreGiven lanes lines done current lists
    → items ≡ lines
    → done < length items
    → more ≡ given lists current (get_or items done d)
    → next ≡ next_lane current (get_or items done d)
    → next_lane current (get_or items done d) < lanes
    → AreGiven lanes lines (done + 1) next more
one_line_given lanes lines items done current next lists more d given' same there more_is next_is below =
    let line : Line = get_or items done d in
    let left : drop done lines ≡ line ∷ drop (done + 1) lines = subst (λ (xs : List Line). drop done xs ≡ line ∷ drop (done + 1) xs) same (drop_more items done d there) in
    record {
      count = ap length more_is ∙ as_many lists current line ∙ given'.count;
      here = subst (λ (n : ℕ). n < lanes) (sym next_is) below;
      each = λ lane within.
          ap (λ (ls : List (List Line)). get_or ls lane [] ++ lines_from lane next (drop (done + 1) lines)) more_is
          ∙ ap (λ (n : ℕ). get_or (given lists current line) lane [] ++ lines_from lane n (drop (done + 1) lines)) next_is
          ∙ one_given lists lane current line (drop (done + 1) lines) (omega (arith, given'.here, given'.count))
          ∙ ap (λ (rest : List Line). get_or lists lane [] ++ lines_from lane current rest) (sym left)
          ∙ given'.each lane within;
    }

-- all lines are given
pub all_given : (script : Script) (items : List Line) (done current : ℕ) (lists : List (List Line)) → AreGiven script.lanes script.lines done current lists → items ≡ script.lines
    → length items ≤ done → lists ≡ lines_by_lane script
all_given script items done current lists given' same end =
    let none : drop done script.lines ≡ [] = drop_all done script.lines (omega (arith, end, ap length same)) in
    fill_by_all (λ lane. lines_of lane script.lines) lists script.lanes [] given'.count
    (λ lane within. sym (append-nil (get_or lists lane []))
    ∙ ap (λ (rest : List Line). get_or lists lane [] ++ lines_from lane current rest) (sym none)
    ∙ given'.each lane within)

-- the lane after a line of a script is one of its lanes
next_below : (lanes workers adds lane : ℕ) (line : Line) → IsLine Live lanes workers adds line → lane < lanes → next_lane lane line < lanes
next_below lanes workers adds lane (Lane other) fits below = fits
next_below lanes workers adds lane _ fits below = below

pub next_lane_below : (script : Script) (items : List Line) (k lane : ℕ) (d : Line) → IsScript Live script → items ≡ script.lines → k < length items → lane < script.lanes
    → next_lane lane (get_or items k d) < script.lanes
next_lane_below script items k lane d rules same there below =
    let there' : k < length script.lines = subst (λ (xs : List Line). k < length xs) same there in
    subst (λ (xs : List Line). next_lane lane (get_or xs k d) < script.lanes) (sym same)
    (next_below script.lanes script.workers (adds_before (take k script.lines)) lane (get_or script.lines k d)
    (rules.each k (get_or script.lines k d) (slice_get-get_or script.lines k d there')) below)

-- a place that a script names is a point with coordinates, so a question of a script can be answered
has_coordinates : (point : Point) → IsPlace point → HasCoordinates point
has_coordinates point place = record {
  across = record { low = grind (arith, ints, place.x_least); high = grind (arith, ints, place.x_most) };
  along = record { low = grind (arith, ints, place.z_least); high = grind (arith, ints, place.z_most) };
}

can_be_answered : (question : Question) → IsQuestion question → IsAnswerable question
can_be_answered (Floor x z) fits = tt
can_be_answered (Path from from_y to to_y) fits = (has_coordinates from fits.0, has_coordinates to fits.2)
can_be_answered (Ray from from_y to) fits = (has_coordinates from fits.0, has_coordinates to fits.2)

-- a lane can run each line of a live script that names no lane
can_run : (lanes workers adds : ℕ) (line : Line) → IsLine Live lanes workers adds line → names_lane line ≡ false → IsRunnable line
can_run lanes workers adds (Lane lane) fits other = absurd (cc other)
can_run lanes workers adds (Ask question) fits other = can_be_answered question fits
can_run lanes workers adds (Add shape) fits other = script_shape shape fits
can_run lanes workers adds (Remove number) fits other = tt
can_run lanes workers adds (Undo back) fits other = tt
can_run lanes workers adds Settle fits other = tt
can_run lanes workers adds Aim fits other = absurd (cc fits)
can_run lanes workers adds (Claim worker) fits other = absurd (cc (fits.0))
can_run lanes workers adds (Back worker) fits other = absurd (cc (fits.0))
can_run lanes workers adds (Submit worker) fits other = absurd (cc (fits.0))
can_run lanes workers adds Publish fits other = absurd (cc fits)
can_run lanes workers adds (Jump jump) fits other = absurd (cc (fits.0))
can_run lanes workers adds (Hop from from_y to to_y) fits other = absurd (cc (fits.0))
can_run lanes workers adds (Send from from_y to to_y) fits other = (has_coordinates from fits.1.0, has_coordinates to fits.1.2)
can_run lanes workers adds (March far) fits other = tt

-- so it can run all that it gets
lines_run : (lane current : ℕ) (lines : List Line) → All (λ (line : Line). names_lane line ≡ false → IsRunnable line) lines → All IsRunnable (lines_from lane current lines)
lines_run lane current [] each = All-nil IsRunnable
lines_run lane current (line ∷ more) each =
    All-append IsRunnable (if not (names_lane line) && current == lane then line ∷ [] else []) (lines_from lane (next_lane current line) more)
    (front (not (names_lane line) && current == lane)
    (λ is. All-head (λ (l : Line). names_lane l ≡ false → IsRunnable l) line more each (not-true (names_lane line) (and_parts (not (names_lane line)) (current == lane) is).0)))
    (lines_run lane (next_lane current line) more (All-tail (λ (l : Line). names_lane l ≡ false → IsRunnable l) line more each))
  where
    front : (b : Bool) → (b ≡ true → IsRunnable line) → All IsRunnable (if b then line ∷ [] else [])
    front true runs = All-cons IsRunnable line [] (runs refl) (All-nil IsRunnable)
    front false runs = All-nil IsRunnable

-- a lane can run the lines that it gets of a live script
pub lane_can_run : (script : Script) (lane : ℕ) → IsScript Live script → All IsRunnable (lines_of lane script.lines)
lane_can_run script lane rules =
    lines_run lane 0 script.lines
    (λ k d there. can_run script.lanes script.workers (adds_before (take k script.lines)) (get_or script.lines k d)
    (rules.each k (get_or script.lines k d) (slice_get-get_or script.lines k d there)))

pub lanes_can_run : (script : Script) (lists : List (List Line)) → IsScript Live script → lists ≡ lines_by_lane script → All (λ list. All IsRunnable list) lists
lanes_can_run script lists rules are =
    All-same (λ (list : List Line). All IsRunnable list) lists (lines_by_lane script) are
    (All-map (λ (list : List Line). All IsRunnable list) (λ lane. lines_of lane script.lines) (range_with_len 0 script.lanes)
    (λ k d there. lane_can_run script (get_or (range_with_len 0 script.lanes) k d) rules))
