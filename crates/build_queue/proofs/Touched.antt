-- The elements of a list that pass a test, one more at a time, and a list of shapes beside them.
use Rattle.std.proofs.Common.{◌≡◌, ℕ, ◌+◌, ◌<◌, ◌≤◌, Bool, true, false, cond, ◌&&◌, eqb, List, [], ◌∷◌, ◌++◌, length, take, drop, filter, get_or, ap, sym, ◌∙◌, ⊎_elim, arith}
use Rattle.std.proofs.lemmas.Bool.{cases_lt, cases_Bool, eq-eqb, ne_eqb}
use Rattle.std.proofs.lemmas.List.{append-nil, take_more, drop_more, drop_all}
use Rattle.std.proofs.lemmas.List.Elements.{filter-append}
use Rattle.nav_ground.specs.declared.cell.Window.{Window}
use Rattle.nav_ground.specs.declared.setting.Setting.{Setting}
use Rattle.nav_ground.specs.declared.shape.Shape.{Shape}
use Rattle.nav_ground.specs.declared.shape.Shape.TheVariants.{Block}
use Rattle.nav_ground.specs.Shapes.{bounds_of}
use Rattle.nav_ground.specs.Tiling.{tile_window, widened, margin_of}
use Rattle.nav_ground.specs.Touching.{are_meeting, is_touching}
use Rattle.nav_ground.proofs.Meeting.{meeting_widened}
use Rattle.build_queue.specs.SameShapes.{is_same_shape, are_same}
use Rattle.build_queue.proofs.SameShapes.{same_shape_decides}

-- a shape whose bounds meet the columns of a tile, with as many more on each side as agents keep from obstacles, touches it
pub met : (setting : Setting) (tile : ℕ) (shape : Shape) (columns : Window) (b : Bool) → b ≡ are_meeting (bounds_of shape) columns
    → columns ≡ widened (tile_window setting tile) (margin_of setting) → is_touching setting tile shape ≡ b
met setting tile shape columns b is near =
    meeting_widened (bounds_of shape) (tile_window setting tile) (margin_of setting) ∙ sym (is ∙ ap (are_meeting (bounds_of shape)) near)

-- one more element of the first ones, kept or left
taken : {A : Type 0} (p : A → Bool) (xs : List A) (i : ℕ) (x : A) (b : Bool) → i < length xs → x ≡ get_or xs i x → p x ≡ b
    → filter p (take (i + 1) xs) ≡ filter p (take i xs) ++ cond b (x ∷ []) []
taken p xs i x b there at is =
    ap (filter p) (take_more xs i x there ∙ ap (λ y. take i xs ++ y ∷ []) (sym at))
    ∙ filter-append p (take i xs) (x ∷ [])
    ∙ ap (λ c. filter p (take i xs) ++ cond c (x ∷ []) []) is

pub kept_more : {A : Type 0} (p : A → Bool) (xs : List A) (i : ℕ) (x : A) (list : List A) → i < length xs → x ≡ get_or xs i x → p x ≡ true
    → list ≡ filter p (take i xs) → list ++ x ∷ [] ≡ filter p (take (i + 1) xs)
kept_more p xs i x list there at is so_far = ap (λ front. front ++ x ∷ []) so_far ∙ sym (taken p xs i x true there at is)

pub left_more : {A : Type 0} (p : A → Bool) (xs : List A) (i : ℕ) (x : A) (list : List A) → i < length xs → x ≡ get_or xs i x → p x ≡ false
    → list ≡ filter p (take i xs) → list ≡ filter p (take (i + 1) xs)
left_more p xs i x list there at is so_far = so_far ∙ sym (append-nil (filter p (take i xs))) ∙ sym (taken p xs i x false there at is)

-- the next element of the last ones
pub next_of : {A : Type 0} (p : A → Bool) (xs : List A) (i : ℕ) (x : A) (b : Bool) → i < length xs → x ≡ get_or xs i x → p x ≡ b
    → filter p (drop i xs) ≡ cond b (x ∷ filter p (drop (i + 1) xs)) (filter p (drop (i + 1) xs))
next_of p xs i x b there at is =
    ap (filter p) (drop_more xs i x there ∙ ap (λ y. y ∷ drop (i + 1) xs) (sym at))
    ∙ ap (λ c. cond c (x ∷ filter p (drop (i + 1) xs)) (filter p (drop (i + 1) xs))) is

-- the shape that stands next in the list, and one that does not
pub same_next : (list : List Shape) (place : ℕ) (x : Shape) (rest : List Shape) → place < length list → get_or list place x ≡ x
    → are_same (drop (place + 1) list) rest ≡ are_same (drop place list) (x ∷ rest)
same_next list place x rest there is =
    sym (ap (λ (shapes : List Shape). are_same shapes (x ∷ rest)) (drop_more list place x there)
    ∙ ap (λ b. b && are_same (drop (place + 1) list) rest) ((same_shape_decides (get_or list place x) x).1 is))

pub not_next : (list : List Shape) (place : ℕ) (x : Shape) (rest : List Shape) → ((place < length list) × (get_or list place x ≡ x) → ⊥)
    → are_same (drop place list) (x ∷ rest) ≡ false
not_next list place x rest apart = ⊎_elim inside past (cases_lt place (length list))
  where
    past : length list ≤ place → are_same (drop place list) (x ∷ rest) ≡ false
    past over = ap (λ (shapes : List Shape). are_same shapes (x ∷ rest)) (drop_all place list over)

    inside : place < length list → are_same (drop place list) (x ∷ rest) ≡ false
    inside there =
        let other : is_same_shape (get_or list place x) x ≡ false =
        ⊎_elim (λ same. absurd (apart (there, (same_shape_decides (get_or list place x) x).0 same))) (λ differs. differs) (cases_Bool (is_same_shape (get_or list place x) x)) in
        ap (λ (shapes : List Shape). are_same shapes (x ∷ rest)) (drop_more list place x there)
        ∙ ap (λ b. b && are_same (drop (place + 1) list) rest) other

-- no shape is left beside a list that has ended, and only beside that
pub same_end : (list : List Shape) (place : ℕ) → place ≤ length list → are_same (drop place list) [] ≡ eqb place (length list)
same_end list place within = ⊎_elim inside past (cases_lt place (length list))
  where
    past : length list ≤ place → are_same (drop place list) [] ≡ eqb place (length list)
    past over =
        ap (λ (shapes : List Shape). are_same shapes []) (drop_all place list over) ∙ sym (eq-eqb place (length list) (omega (arith, over, within)))

    inside : place < length list → are_same (drop place list) [] ≡ eqb place (length list)
    inside there =
        let x : Shape = Block 0 0 0 0 0 0 in
        ap (λ (shapes : List Shape). are_same shapes []) (drop_more list place x there) ∙ sym (ne_eqb place (length list) (λ same. omega (arith, same, there)))

-- the shapes that are left decide beside what is left of the list: where the next does not stand there, where it does, and where it is passed by
pub stops : (p : Shape → Bool) (shapes list : List Shape) (i place : ℕ) (x : Shape) (ground : Bool) → i < length shapes → x ≡ get_or shapes i x → p x ≡ true
    → ((place < length list) × (get_or list place x ≡ x) → ⊥)
    → are_same (drop place list) (filter p (drop i shapes)) ≡ ground → false ≡ ground
stops p shapes list i place x ground there at is apart so_far =
    sym (not_next list place x (filter p (drop (i + 1) shapes)) apart)
    ∙ sym (ap (are_same (drop place list)) (next_of p shapes i x true there at is)) ∙ so_far

pub goes_on : (p : Shape → Bool) (shapes list : List Shape) (i place : ℕ) (x : Shape) (ground : Bool) → i < length shapes → x ≡ get_or shapes i x → p x ≡ true
    → (place < length list) × (get_or list place x ≡ x)
    → are_same (drop place list) (filter p (drop i shapes)) ≡ ground → are_same (drop (place + 1) list) (filter p (drop (i + 1) shapes)) ≡ ground
goes_on p shapes list i place x ground there at is next so_far =
    same_next list place x (filter p (drop (i + 1) shapes)) next.0 next.1
    ∙ sym (ap (are_same (drop place list)) (next_of p shapes i x true there at is)) ∙ so_far

pub passes_by : (p : Shape → Bool) (shapes list : List Shape) (i place : ℕ) (x : Shape) (ground : Bool) → i < length shapes → x ≡ get_or shapes i x → p x ≡ false
    → are_same (drop place list) (filter p (drop i shapes)) ≡ ground → are_same (drop place list) (filter p (drop (i + 1) shapes)) ≡ ground
passes_by p shapes list i place x ground there at is so_far =
    sym (ap (are_same (drop place list)) (next_of p shapes i x false there at is)) ∙ so_far
