-- ChunkLaws: an element of a list in chunks of 32, one written, and the chunks that stay full.
use Rattle.std.proofs.Common.{◌≡◌, ℕ, ◌+◌, ◌*◌, ◌-◌, ◌/◌, ◌%◌, ◌≤◌, ◌<◌, zero, suc, List, [], ◌∷◌, ◌++◌, length, set, get_or, None, refl, ap, ◌∙◌, sym, arith, length-append}
use Rattle.std.specs.Prelude.{All, slice_get}
use Rattle.std.specs.Option.{unwrap_or}
use Rattle.std.proofs.lemmas.List.{append-nil, length-set, set-append_left, set-append_right, set_past}
use Rattle.std.proofs.lemmas.List.Elements.{All-head, All-tail}
use Rattle.std.proofs.lemmas.Grind.{flat_map-append}
use Rattle.std.proofs.lemmas.Option.{slice_get_past, unwrap_or-slice_get}
use Rattle.nav_lists.specs.Chunked.{joined, AreFull, AreChunks, IsLeft}

slice_get-append_left : {T : Type 0} (xs ys : List T) (n : ℕ) → n < length xs → slice_get (xs ++ ys) n ≡ slice_get xs n
slice_get-append_left [] ys n l = absurd (omega (arith, l))
slice_get-append_left (x ∷ xs) ys zero l = refl
slice_get-append_left (x ∷ xs) ys (suc n) l = slice_get-append_left xs ys n (omega (arith, l))

slice_get-append_right : {T : Type 0} (xs ys : List T) (n k : ℕ) → n ≡ length xs + k → slice_get (xs ++ ys) n ≡ slice_get ys k
slice_get-append_right [] ys n k is = ap (slice_get ys) (omega (arith, is))
slice_get-append_right (x ∷ xs) ys zero k is = absurd (omega (arith, is))
slice_get-append_right (x ∷ xs) ys (suc n) k is = slice_get-append_right xs ys n k (omega (arith, is))

-- there is room for no more than 32 elements in each chunk
all_below : {T : Type 0} (chunks : List (List T)) → AreFull 32 chunks → length (joined chunks) ≤ 32 * length chunks
all_below [] full = omega arith
all_below (chunk ∷ []) full = let e = length-append chunk [] in let l = full.0 in omega (arith, e, l)
all_below (chunk ∷ (next ∷ rest)) full =
    let e = length-append chunk (joined (next ∷ rest)) in
    let l = full.0 in
    let more = all_below (next ∷ rest) full.1 in
    omega (arith, e, l, more)

-- the chunk that an element of the list stands in is there
pub there_in : {T : Type 0} (chunks : List (List T)) (n : ℕ) → AreFull 32 chunks → n < length (joined chunks) → n / 32 < length chunks
there_in chunks n full there = let most = all_below chunks full in omega (arith, most, there)

pub get_none : {T : Type 0} (chunks : List (List T)) (n : ℕ) → AreFull 32 chunks → length chunks ≤ n / 32 → None ≡ slice_get (joined chunks) n
get_none chunks n full past =
    let most = all_below chunks full in
    sym (slice_get_past (joined chunks) n (omega (arith, most, past)))

pub put_past : {T : Type 0} (chunks : List (List T)) (n : ℕ) (x : T) → AreFull 32 chunks → length chunks ≤ n / 32 → joined chunks ≡ set (joined chunks) n x
put_past chunks n x full past =
    let most = all_below chunks full in
    sym (set_past (joined chunks) n x (omega (arith, most, past)))

-- an element of the list is one of the chunk at q, its place there is r
get_by : {T : Type 0} (chunks : List (List T)) (q r n : ℕ) (c : List T) → n ≡ 32 * q + r → r < 32 → AreFull 32 chunks → q < length chunks
    → c ≡ get_or chunks q c → slice_get (joined chunks) n ≡ slice_get c r
get_by [] q r n c is short full there at = absurd (omega (arith, there))
get_by (chunk ∷ []) zero r n c is short full there at =
    ap (λ xs. slice_get xs n) (append-nil chunk) ∙ (λ i. slice_get (sym at i) (the_place i))
  where
    the_place : n ≡ r
    the_place = omega (arith, is)
get_by (chunk ∷ (next ∷ rest)) zero r n c is short full there at =
    slice_get-append_left chunk (joined (next ∷ rest)) n (let l = full.0 in omega (arith, is, l)) ∙ (λ i. slice_get (sym at i) (the_place i))
  where
    the_place : n ≡ r
    the_place = omega (arith, is)
get_by (chunk ∷ []) (suc q) r n c is short full there at = absurd (omega (arith, there))
get_by (chunk ∷ (next ∷ rest)) (suc q) r n c is short full there at =
    slice_get-append_right chunk (joined (next ∷ rest)) n (32 * q + r) (let l = full.0 in omega (arith, is, l))
    ∙ get_by (next ∷ rest) q r (32 * q + r) c refl short full.1 (omega (arith, there)) at

pub get_in : {T : Type 0} (chunks : List (List T)) (n : ℕ) (c : List T) → AreFull 32 chunks → n / 32 < length chunks → c ≡ get_or chunks (n / 32) c
    → slice_get c (n % 32) ≡ slice_get (joined chunks) n
get_in chunks n c full there at = sym (get_by chunks (n / 32) (n % 32) n c (omega arith) (omega arith) full there at)

within_by : {T : Type 0} (chunks : List (List T)) (q r n : ℕ) (c : List T) → n ≡ 32 * q + r → r < 32 → AreFull 32 chunks → n < length (joined chunks)
    → c ≡ get_or chunks q c → r < length c
within_by [] q r n c is short full within at = absurd (omega (arith, within))
within_by (chunk ∷ []) zero r n c is short full within at =
    let e = length-append chunk [] in let same = ap length at in omega (arith, e, same, is, within)
within_by (chunk ∷ (next ∷ rest)) zero r n c is short full within at =
    let l = full.0 in let same = ap length at in omega (arith, l, same, is, short)
within_by (chunk ∷ []) (suc q) r n c is short full within at =
    let e = length-append chunk [] in let l = full.0 in absurd (omega (arith, e, l, is, within))
within_by (chunk ∷ (next ∷ rest)) (suc q) r n c is short full within at =
    let e = length-append chunk (joined (next ∷ rest)) in
    let l = full.0 in
    within_by (next ∷ rest) q r (32 * q + r) c refl short full.1 (omega (arith, e, l, is, within)) at

pub within_in : {T : Type 0} (chunks : List (List T)) (n : ℕ) (c : List T) → AreFull 32 chunks → n < length (joined chunks) → c ≡ get_or chunks (n / 32) c
    → n % 32 < length c
within_in chunks n c full within at = within_by chunks (n / 32) (n % 32) n c (omega arith) (omega arith) full within at

pub at_in : {T : Type 0} (chunks : List (List T)) (n : ℕ) (c : List T) (x : T) → AreFull 32 chunks → n < length (joined chunks)
    → c ≡ get_or chunks (n / 32) c → x ≡ get_or c (n % 32) x → x ≡ get_or (joined chunks) n x
at_in chunks n c x full within at is =
    is ∙ sym (unwrap_or-slice_get c (n % 32) x)
    ∙ ap (λ o. unwrap_or o x) (get_in chunks n c full (there_in chunks n full within) at)
    ∙ unwrap_or-slice_get (joined chunks) n x

-- an element written into the chunk at q
put_by : {T : Type 0} (chunks : List (List T)) (q r n : ℕ) (c new : List T) (x : T) → n ≡ 32 * q + r → r < 32 → AreFull 32 chunks → q < length chunks
    → c ≡ get_or chunks q c → new ≡ set c r x → joined (set chunks q new) ≡ set (joined chunks) n x
put_by [] q r n c new x is short full there at made = absurd (omega (arith, there))
put_by {T} (chunk ∷ []) zero r n c new x is short full there at made =
    append-nil new ∙ made ∙ (λ i. set (at i) (sym the_place i) x) ∙ ap (λ (xs : List T). set xs n x) (sym (append-nil chunk))
  where
    the_place : n ≡ r
    the_place = omega (arith, is)
put_by {T} (chunk ∷ (next ∷ rest)) zero r n c new x is short full there at made =
    ap (λ (xs : List T). xs ++ joined (next ∷ rest)) (made ∙ (λ i. set (at i) (sym the_place i) x))
    ∙ sym (set-append_left chunk (joined (next ∷ rest)) n x (let l = full.0 in omega (arith, is, l)))
  where
    the_place : n ≡ r
    the_place = omega (arith, is)
put_by (chunk ∷ []) (suc q) r n c new x is short full there at made = absurd (omega (arith, there))
put_by (chunk ∷ (next ∷ rest)) (suc q) r n c new x is short full there at made =
    ap (λ xs. chunk ++ xs) (put_by (next ∷ rest) q r (n - 32) c new x (omega (arith, is)) short full.1 (omega (arith, there)) at made)
    ∙ sym (set-append_right chunk (joined (next ∷ rest)) 32 n x full.0 (omega (arith, is)))

pub put_in : {T : Type 0} (chunks : List (List T)) (n : ℕ) (c new : List T) (x : T) → AreFull 32 chunks → n / 32 < length chunks
    → c ≡ get_or chunks (n / 32) c → new ≡ set c (n % 32) x → joined (set chunks (n / 32) new) ≡ set (joined chunks) n x
put_in chunks n c new x full there at made = put_by chunks (n / 32) (n % 32) n c new x (omega arith) (omega arith) full there at made

full_by : {T : Type 0} (chunks : List (List T)) (q : ℕ) (c new : List T) → AreFull 32 chunks → q < length chunks → c ≡ get_or chunks q c
    → length new ≡ length c → AreFull 32 (set chunks q new)
full_by [] q c new full there at same = absurd (omega (arith, there))
full_by (chunk ∷ []) zero c new full there at same = (let l = full.0 in let e = ap length at in omega (arith, l, e, same), full.1)
full_by (chunk ∷ (next ∷ rest)) zero c new full there at same = (same ∙ ap length at ∙ full.0, full.1)
full_by (chunk ∷ []) (suc q) c new full there at same = absurd (omega (arith, there))
full_by (chunk ∷ (next ∷ rest)) (suc zero) c new full there at same = (full.0, full_by (next ∷ rest) zero c new full.1 (omega (arith, there)) at same)
full_by (chunk ∷ (next ∷ rest)) (suc (suc q)) c new full there at same = (full.0, full_by (next ∷ rest) (suc q) c new full.1 (omega (arith, there)) at same)

-- the chunks are as full as before
pub put_chunks : {T : Type 0} (chunks : List (List T)) (count n : ℕ) (c new : List T) (x : T) → AreChunks 32 count chunks → n / 32 < length chunks
    → c ≡ get_or chunks (n / 32) c → new ≡ set c (n % 32) x → AreChunks 32 count (set chunks (n / 32) new)
put_chunks chunks count n c new x are there at made = record {
  full = full_by chunks (n / 32) c new are.full there at (ap length made ∙ length-set c (n % 32) x);
  counted = are.counted ∙ sym (length-set (joined chunks) n x) ∙ sym (ap length (put_in chunks n c new x are.full there at made));
}

-- one more chunk
pub joined_push : {T : Type 0} (chunks : List (List T)) (last : List T) → joined (chunks ++ last ∷ []) ≡ joined chunks ++ last
joined_push chunks last = flat_map-append (λ chunk. chunk) chunks (last ∷ []) ∙ ap (λ xs. joined chunks ++ xs) (append-nil last)

-- full chunks and a last one
pub full_pushed : {T : Type 0} (chunks : List (List T)) (last : List T) → All (λ (chunk : List T). length chunk ≡ 32) chunks → length last ≤ 32
    → AreFull 32 (chunks ++ last ∷ [])
full_pushed [] last full short = (short, tt)
full_pushed {T} (chunk ∷ []) last full short = (All-head (λ (chunk : List T). length chunk ≡ 32) chunk [] full, (short, tt))
full_pushed {T} (chunk ∷ (next ∷ rest)) last full short = (
  All-head (λ (chunk : List T). length chunk ≡ 32) chunk (next ∷ rest) full,
  full_pushed (next ∷ rest) last (All-tail (λ (chunk : List T). length chunk ≡ 32) chunk (next ∷ rest) full) short,
)

-- the chunks of all elements, once the last is closed
pub ended : {T : Type 0} (chunks made : List (List T)) (left rest all : List T) (count : ℕ) → IsLeft 32 chunks left → made ≡ chunks ++ left ∷ []
    → (joined chunks ++ left) ++ rest ≡ all → rest ≡ [] → count ≡ length all → AreChunks 32 count made
ended {T} chunks made left rest all count is pushed elements none counts = rw pushed (record {
  full = full_pushed chunks left is.full (let l = is.short in omega (arith, l));
  counted = counts ∙ ap length (sym elements ∙ ap (λ (xs : List T). (joined chunks ++ left) ++ xs) none ∙ append-nil (joined chunks ++ left) ∙ sym (joined_push chunks left));
})
