-- Cuts of what is spanned by a list: where a form is not negative at what is left of the list behind one or two lines, nor where the lines are
-- crossed, then some multiple of it, less multiples of the lines' own forms, is nowhere negative on the whole list. So it is not negative on any
-- combination of the list that lies behind the lines.
use Rattle.std.proofs.Common.{◌≡◌, ℤ, pos, ◌+ℤ◌, ◌-ℤ◌, ◌*ℤ◌, ◌≤ℤ◌, ◌<ℤ◌, List, [], ◌∷◌, refl, sym, subst, arith}
use Rattle.std.specs.List.{All}
use Rattle.std.proofs.lemmas.Int.{ints, by_lt_z}
use Rattle.std.proofs.lemmas.List.Elements.{All-nil, All-cons, All-head, All-tail}
use lib.IntN.{neg_ℤ}
use Rattle.nav_base.proofs.Polynomials.{at, number, opposite, sum, difference, product, equal}
use Rattle.nav_base.proofs.Signs.{product-not_negative, product-not_positive, product-positive, factor-not_negative}

-- the form h where the segment between two elements crosses the line of the form f, times a positive number
abbrev pub crossed : ℤ → ℤ → ℤ → ℤ → ℤ
crossed fp hp fq hq = fp *ℤ hq -ℤ fq *ℤ hp

-- the form h less a multiple of f
abbrev pub less : ℤ → ℤ → ℤ → ℤ → ℤ
less k l f h = k *ℤ h -ℤ l *ℤ f

-- ---- plain numbers

sum-not_negative : (a b : ℤ) → pos 0 ≤ℤ a → pos 0 ≤ℤ b → pos 0 ≤ℤ (a +ℤ b)
sum-not_negative a b p q = omega (arith, ints)

along : (a b : ℤ) → a ≡ b → pos 0 ≤ℤ a → pos 0 ≤ℤ b
along a b e p = subst (λ (n : ℤ). pos 0 ≤ℤ n) e p

opposite-not_negative : (a : ℤ) → a <ℤ pos 0 → pos 0 ≤ℤ neg_ℤ a
opposite-not_negative a p = omega (arith, ints)

opposite-positive : (a : ℤ) → a <ℤ pos 0 → pos 0 <ℤ neg_ℤ a
opposite-positive a p = omega (arith, ints)

not_both : (a : ℤ) → a <ℤ pos 0 → pos 0 ≤ℤ a → ⊥
not_both a p q = omega (arith, ints)

-- an element behind the best so far is behind what is better
passed_on : (k l fx hx fq hq : ℤ) → pos 0 <ℤ k → fx <ℤ pos 0 → fq <ℤ pos 0 → less k l fx hx <ℤ pos 0 → pos 0 ≤ℤ less k l fq hq → pos 0 ≤ℤ less (neg_ℤ fx) (neg_ℤ hx) fq hq
passed_on k l fx hx fq hq some x q beaten level = factor-not_negative k (less (neg_ℤ fx) (neg_ℤ hx) fq hq) some (along _ _ same both)
  where
    both : pos 0 ≤ℤ (neg_ℤ fx *ℤ less k l fq hq +ℤ neg_ℤ fq *ℤ neg_ℤ (less k l fx hx))
    both = sum-not_negative _ _ (product-not_negative _ _ (opposite-not_negative fx x) level) (product-not_negative _ _ (opposite-not_negative fq q) (opposite-not_negative _ beaten))

    same : neg_ℤ fx *ℤ less k l fq hq +ℤ neg_ℤ fq *ℤ neg_ℤ (less k l fx hx) ≡ k *ℤ less (neg_ℤ fx) (neg_ℤ hx) fq hq
    same = equal (k ∷ l ∷ fx ∷ hx ∷ fq ∷ hq ∷ [])
        (sum (product (opposite (at 2)) (difference (product (at 0) (at 5)) (product (at 1) (at 4)))) (product (opposite (at 4)) (opposite (difference (product (at 0) (at 3)) (product (at 1) (at 2))))))
        (product (at 0) (difference (product (opposite (at 2)) (at 5)) (product (opposite (at 3)) (at 4))))
        refl

-- what is better lies behind the line of the form h
is_behind : (k l fx hx : ℤ) → pos 0 <ℤ k → pos 0 ≤ℤ l → fx <ℤ pos 0 → less k l fx hx <ℤ pos 0 → pos 0 ≤ℤ neg_ℤ hx
is_behind k l fx hx some least x beaten = by_lt_z hx (pos 0) (λ below. opposite-not_negative hx below) (λ above. absurd (not_both _ beaten (whole above)))
  where
    whole : pos 0 ≤ℤ hx → pos 0 ≤ℤ less k l fx hx
    whole above = spread (k *ℤ hx) (l *ℤ fx) (product-not_negative k hx (weak k some) above) (product-not_positive l fx least (weak_below fx x))
      where
        weak : (a : ℤ) → pos 0 <ℤ a → pos 0 ≤ℤ a
        weak a p = omega (arith, ints)

        weak_below : (a : ℤ) → a <ℤ pos 0 → a ≤ℤ pos 0
        weak_below a p = omega (arith, ints)

        spread : (a b : ℤ) → pos 0 ≤ℤ a → b ≤ℤ pos 0 → pos 0 ≤ℤ (a -ℤ b)
        spread a b p q = omega (arith, ints)

-- the crossing with the best, said by its opposite numbers
turned : (fx hx fv hv : ℤ) → pos 0 ≤ℤ crossed fv hv fx hx → pos 0 ≤ℤ less (neg_ℤ fx) (neg_ℤ hx) fv hv
turned fx hx fv hv p = along _ _ same p
  where
    same : crossed fv hv fx hx ≡ less (neg_ℤ fx) (neg_ℤ hx) fv hv
    same = equal (fx ∷ hx ∷ fv ∷ hv ∷ [])
        (difference (product (at 2) (at 1)) (product (at 0) (at 3)))
        (difference (product (opposite (at 0)) (at 3)) (product (opposite (at 1)) (at 2)))
        refl

-- ---- the best multiplier

-- multipliers with which h less the multiple of f is not negative where f is negative, nor at anything else whose crossings with that are not
pub record IsBest {A : Type 0} (f h : A → ℤ) (xs : List A) (k l : ℤ) : Type 0 where
  pub some : pos 0 <ℤ k
  pub least : pos 0 ≤ℤ l
  pub all : All (λ (v : A). f v <ℤ pos 0 → pos 0 ≤ℤ less k l (f v) (h v)) xs
  pub others : (fv hv : ℤ) → pos 0 ≤ℤ hv → All (λ (q : A). f q <ℤ pos 0 → pos 0 ≤ℤ crossed fv hv (f q) (h q)) xs → pos 0 ≤ℤ less k l fv hv

pub best : {A : Type 0} (f h : A → ℤ) (xs : List A) → (k : ℤ) × (l : ℤ) × IsBest f h xs k l
best {A} f h [] = (
  pos 1,
  pos 0,
  record {
    some = omega (arith, ints);
    least = omega (arith, ints);
    all = All-nil (λ (v : A). f v <ℤ pos 0 → pos 0 ≤ℤ less (pos 1) (pos 0) (f v) (h v));
    others = λ fv hv p crossings. along _ _ (only fv hv) p;
  },
)
  where
    only : (fv hv : ℤ) → hv ≡ less (pos 1) (pos 0) fv hv
    only fv hv = equal (fv ∷ hv ∷ []) (at 1) (difference (product (number (pos 1)) (at 1)) (product (number (pos 0)) (at 0))) refl
best {A} f h (x ∷ xs) = longer (best f h xs).0 (best f h xs).1 (best f h xs).2
  where
    kept : (k l : ℤ) → IsBest f h xs k l → (f x <ℤ pos 0 → pos 0 ≤ℤ less k l (f x) (h x)) → IsBest f h (x ∷ xs) k l
    kept k l b first = record {
      some = b.some;
      least = b.least;
      all = All-cons (λ (v : A). f v <ℤ pos 0 → pos 0 ≤ℤ less k l (f v) (h v)) x xs first b.all;
      others = λ fv hv p crossings. b.others fv hv p (All-tail (λ (q : A). f q <ℤ pos 0 → pos 0 ≤ℤ crossed fv hv (f q) (h q)) x xs crossings);
    }

    better : (k l : ℤ) → IsBest f h xs k l → f x <ℤ pos 0 → less k l (f x) (h x) <ℤ pos 0 → IsBest f h (x ∷ xs) (neg_ℤ (f x)) (neg_ℤ (h x))
    better k l b behind beaten = record {
      some = opposite-positive (f x) behind;
      least = is_behind k l (f x) (h x) b.some b.least behind beaten;
      all = All-cons (λ (v : A). f v <ℤ pos 0 → pos 0 ≤ℤ less (neg_ℤ (f x)) (neg_ℤ (h x)) (f v) (h v)) x xs (λ p. own (f x) (h x))
          (λ i d inside q. passed_on k l (f x) (h x) _ _ b.some behind q beaten (b.all i d inside q));
      others = λ fv hv p crossings. turned (f x) (h x) fv hv (All-head (λ (q : A). f q <ℤ pos 0 → pos 0 ≤ℤ crossed fv hv (f q) (h q)) x xs crossings behind);
    }
      where
        own : (fx hx : ℤ) → pos 0 ≤ℤ less (neg_ℤ fx) (neg_ℤ hx) fx hx
        own fx hx = along (pos 0) _ (equal (fx ∷ hx ∷ []) (number (pos 0)) (difference (product (opposite (at 0)) (at 1)) (product (opposite (at 1)) (at 0))) refl) (omega (arith, ints))

    longer : (k l : ℤ) → IsBest f h xs k l → (k' : ℤ) × (l' : ℤ) × IsBest f h (x ∷ xs) k' l'
    longer k l b =
        by_lt_z (f x) (pos 0)
        (λ behind. by_lt_z (less k l (f x) (h x)) (pos 0)
        (λ beaten. (neg_ℤ (f x), neg_ℤ (h x), better k l b behind beaten))
        (λ level. (k, l, kept k l b (λ p. level))))
        (λ before. (k, l, kept k l b (λ p. absurd (not_both (f x) p before))))

-- ---- one line

-- where h is not negative behind the line nor where the line is crossed, h less some multiple of f is nowhere negative
pub record IsCut {A : Type 0} (f h : A → ℤ) (xs : List A) (k l : ℤ) : Type 0 where
  pub some : pos 0 <ℤ k
  pub least : pos 0 ≤ℤ l
  pub all : All (λ (v : A). pos 0 ≤ℤ less k l (f v) (h v)) xs

-- a crossing of two elements, of which the first may lie on the line
on_line : (fv hv fq hq : ℤ) → pos 0 ≤ℤ fv → pos 0 ≤ℤ hv → fq <ℤ pos 0 → (pos 0 <ℤ fv → pos 0 ≤ℤ crossed fv hv fq hq) → pos 0 ≤ℤ crossed fv hv fq hq
on_line fv hv fq hq before high behind beyond = by_lt_z (pos 0) fv beyond (λ on. along _ _ (level fv (flat fv before on)) (product-not_negative _ _ (opposite-not_negative fq behind) high))
  where
    flat : (a : ℤ) → pos 0 ≤ℤ a → a ≤ℤ pos 0 → a ≡ pos 0
    flat a p q = omega (arith, ints)

    level : (a : ℤ) → a ≡ pos 0 → neg_ℤ fq *ℤ hv ≡ crossed a hv fq hq
    level a e = subst (λ (b : ℤ). neg_ℤ fq *ℤ hv ≡ crossed b hv fq hq) (sym e)
        (equal (hv ∷ fq ∷ hq ∷ []) (product (opposite (at 1)) (at 0)) (difference (product (number (pos 0)) (at 2)) (product (at 1) (at 0))) refl)

pub one_cut : {A : Type 0} (f h : A → ℤ) (xs : List A)
    → All (λ (v : A). pos 0 ≤ℤ f v → pos 0 ≤ℤ h v) xs
    → All (λ (p : A). All (λ (q : A). pos 0 <ℤ f p → f q <ℤ pos 0 → pos 0 ≤ℤ crossed (f p) (h p) (f q) (h q)) xs) xs
    → (k : ℤ) × (l : ℤ) × IsCut f h xs k l
one_cut {A} f h xs left crossings = cut (best f h xs).0 (best f h xs).1 (best f h xs).2
  where
    cut : (k l : ℤ) → IsBest f h xs k l → (k' : ℤ) × (l' : ℤ) × IsCut f h xs k' l'
    cut k l b = (
      k,
      l,
      record {
        some = b.some;
        least = b.least;
        all = λ i d inside. by_lt_z _ (pos 0) (b.all i d inside)
            (λ before. b.others _ _ (left i d inside before) (λ j e within behind. on_line _ _ _ _ before (left i d inside before) behind (λ beyond. crossings i d inside j e within beyond behind)));
      },
    )

-- ---- two lines

-- one line's crossing of two elements, crossed with a third by the other line
twice : (fp gp hp fq gq hq gr hr : ℤ) → pos 0 <ℤ fp → fq <ℤ pos 0 → gr <ℤ pos 0 → pos 0 <ℤ gq → pos 0 ≤ℤ crossed fp gp fq gq
    → pos 0 ≤ℤ crossed gq hq gr hr → (pos 0 <ℤ gp → pos 0 ≤ℤ crossed gp hp gr hr) → (pos 0 ≤ℤ gp → pos 0 ≤ℤ hp) → (gp <ℤ pos 0 → pos 0 ≤ℤ crossed gq hq gp hp)
    → pos 0 ≤ℤ crossed (crossed fp gp fq gq) (crossed fp hp fq hq) gr hr
twice fp gp hp fq gq hq gr hr before behind third far inner beyond above left below =
    by_lt_z gp (pos 0)
    (λ under. factor-not_negative gq _ far (along _ _ three (sum-not_negative _ _ (product-not_negative _ _ inner beyond) (product-not_negative _ _ (twice_behind gr fq third behind) (below under)))))
    (λ over. along _ _ two (sum-not_negative _ _ (product-not_negative _ _ (weak fp before) beyond) (product-not_negative _ _ (opposite-not_negative fq behind) (on_line gp hp gr hr over (left over) third above))))
  where
    weak : (a : ℤ) → pos 0 <ℤ a → pos 0 ≤ℤ a
    weak a p = omega (arith, ints)

    twice_behind : (a b : ℤ) → a <ℤ pos 0 → b <ℤ pos 0 → pos 0 ≤ℤ (a *ℤ b)
    twice_behind a b p q = along _ _ (equal (a ∷ b ∷ []) (product (opposite (at 0)) (opposite (at 1))) (product (at 0) (at 1)) refl) (product-not_negative _ _ (opposite-not_negative a p) (opposite-not_negative b q))

    two : fp *ℤ crossed gq hq gr hr +ℤ neg_ℤ fq *ℤ crossed gp hp gr hr ≡ crossed (crossed fp gp fq gq) (crossed fp hp fq hq) gr hr
    two = equal (fp ∷ gp ∷ hp ∷ fq ∷ gq ∷ hq ∷ gr ∷ hr ∷ [])
        (sum (product (at 0) (difference (product (at 4) (at 7)) (product (at 6) (at 5)))) (product (opposite (at 3)) (difference (product (at 1) (at 7)) (product (at 6) (at 2)))))
        (difference (product (difference (product (at 0) (at 4)) (product (at 3) (at 1))) (at 7)) (product (at 6) (difference (product (at 0) (at 5)) (product (at 3) (at 2)))))
        refl

    three : crossed fp gp fq gq *ℤ crossed gq hq gr hr +ℤ (gr *ℤ fq) *ℤ crossed gq hq gp hp ≡ gq *ℤ crossed (crossed fp gp fq gq) (crossed fp hp fq hq) gr hr
    three = equal (fp ∷ gp ∷ hp ∷ fq ∷ gq ∷ hq ∷ gr ∷ hr ∷ [])
        (sum (product (difference (product (at 0) (at 4)) (product (at 3) (at 1))) (difference (product (at 4) (at 7)) (product (at 6) (at 5)))) (product (product (at 6) (at 3)) (difference (product (at 4) (at 2)) (product (at 1) (at 5)))))
        (product (at 4) (difference (product (difference (product (at 0) (at 4)) (product (at 3) (at 1))) (at 7)) (product (at 6) (difference (product (at 0) (at 5)) (product (at 3) (at 2))))))
        refl

-- where two lines have a strip between them, their forms' sum is positive everywhere, and a crossing of one lies behind the other
inner_crossing : (fp gp fq gq : ℤ) → pos 0 <ℤ fp → fq <ℤ pos 0 → pos 0 <ℤ (fp +ℤ gp) → pos 0 <ℤ (fq +ℤ gq) → pos 0 ≤ℤ crossed fp gp fq gq
inner_crossing fp gp fq gq before behind p q = along _ _ same (sum-not_negative _ _ (product-not_negative _ _ (weak fp before) (weak _ q)) (product-not_negative _ _ (opposite-not_negative fq behind) (weak _ p)))
  where
    weak : (a : ℤ) → pos 0 <ℤ a → pos 0 ≤ℤ a
    weak a p = omega (arith, ints)

    same : fp *ℤ (fq +ℤ gq) +ℤ neg_ℤ fq *ℤ (fp +ℤ gp) ≡ crossed fp gp fq gq
    same = equal (fp ∷ gp ∷ fq ∷ gq ∷ [])
        (sum (product (at 0) (sum (at 2) (at 3))) (product (opposite (at 2)) (sum (at 0) (at 1))))
        (difference (product (at 0) (at 3)) (product (at 2) (at 1)))
        refl

-- the form h less multiples of f and g
abbrev pub less_both : ℤ → ℤ → ℤ → ℤ → ℤ → ℤ → ℤ
less_both k l m f g h = k *ℤ h -ℤ l *ℤ f -ℤ m *ℤ g

pub record IsStrip {A : Type 0} (f g h : A → ℤ) (xs : List A) (k l m : ℤ) : Type 0 where
  pub some : pos 0 <ℤ k
  pub first : pos 0 ≤ℤ l
  pub second : pos 0 ≤ℤ m
  pub all : All (λ (v : A). pos 0 ≤ℤ less_both k l m (f v) (g v) (h v)) xs

pub two_cuts : {A : Type 0} (f g h : A → ℤ) (xs : List A)
    → All (λ (v : A). pos 0 <ℤ (f v +ℤ g v)) xs
    → All (λ (v : A). pos 0 ≤ℤ f v → pos 0 ≤ℤ g v → pos 0 ≤ℤ h v) xs
    → All (λ (p : A). All (λ (q : A). pos 0 <ℤ f p → f q <ℤ pos 0 → pos 0 ≤ℤ crossed (f p) (h p) (f q) (h q)) xs) xs
    → All (λ (p : A). All (λ (q : A). pos 0 <ℤ g p → g q <ℤ pos 0 → pos 0 ≤ℤ crossed (g p) (h p) (g q) (h q)) xs) xs
    → (k : ℤ) × (l : ℤ) × (m : ℤ) × IsStrip f g h xs k l m
two_cuts {A} f g h xs strip left by_first by_second = second (best g h xs).0 (best g h xs).1 (best g h xs).2
  where
    far : (a b : ℤ) → a <ℤ pos 0 → pos 0 <ℤ (a +ℤ b) → pos 0 <ℤ b
    far a b p q = omega (arith, ints)

    second : (k m : ℤ) → IsBest g h xs k m → (k' : ℤ) × (l' : ℤ) × (m' : ℤ) × IsStrip f g h xs k' l' m'
    second k m b = both (one_cut f lessened xs before crossings).0 (one_cut f lessened xs before crossings).1 (one_cut f lessened xs before crossings).2
      where
        lessened : A → ℤ
        lessened v = less k m (g v) (h v)

        before : All (λ (v : A). pos 0 ≤ℤ f v → pos 0 ≤ℤ lessened v) xs
        before = λ i d inside ahead. by_lt_z _ (pos 0) (b.all i d inside)
            (λ over. b.others _ _ (left i d inside ahead over) (λ j e within behind. on_line _ _ _ _ over (left i d inside ahead over) behind (λ beyond. by_second i d inside j e within beyond behind)))

        crossings : All (λ (p : A). All (λ (q : A). pos 0 <ℤ f p → f q <ℤ pos 0 → pos 0 ≤ℤ crossed (f p) (lessened p) (f q) (lessened q)) xs) xs
        crossings = λ i d inside j e within ahead behind. along _ _ (joined _ _ _ _ _ _)
            (b.others _ _ (by_first i d inside j e within ahead behind)
            (λ n o third under. twice _ _ _ _ _ _ _ _ ahead behind under (far _ _ behind (strip j e within))
            (inner_crossing _ _ _ _ ahead behind (strip i d inside) (strip j e within))
            (by_second j e within n o third (far _ _ behind (strip j e within)) under)
            (λ over. by_second i d inside n o third over under)
            (λ over. left i d inside (weak _ ahead) over)
            (λ below. by_second j e within i d inside (far _ _ behind (strip j e within)) below)))
          where
            weak : (a : ℤ) → pos 0 <ℤ a → pos 0 ≤ℤ a
            weak a p = omega (arith, ints)

            joined : (fp gp hp fq gq hq : ℤ) → less k m (crossed fp gp fq gq) (crossed fp hp fq hq) ≡ crossed fp (less k m gp hp) fq (less k m gq hq)
            joined fp gp hp fq gq hq = equal (k ∷ m ∷ fp ∷ gp ∷ hp ∷ fq ∷ gq ∷ hq ∷ [])
                (difference (product (at 0) (difference (product (at 2) (at 7)) (product (at 5) (at 4)))) (product (at 1) (difference (product (at 2) (at 6)) (product (at 5) (at 3)))))
                (difference (product (at 2) (difference (product (at 0) (at 7)) (product (at 1) (at 6)))) (product (at 5) (difference (product (at 0) (at 4)) (product (at 1) (at 3)))))
                refl

        both : (k' l' : ℤ) → IsCut f lessened xs k' l' → (k'' : ℤ) × (l'' : ℤ) × (m'' : ℤ) × IsStrip f g h xs k'' l'' m''
        both k' l' c = (
          k' *ℤ k,
          l',
          k' *ℤ m,
          record {
            some = product-positive k' k c.some b.some;
            first = c.least;
            second = product-not_negative k' m (weak k' c.some) b.least;
            all = λ i d inside. along _ _ (spread k' l' _ _ _) (c.all i d inside);
          },
        )
          where
            weak : (a : ℤ) → pos 0 <ℤ a → pos 0 ≤ℤ a
            weak a p = omega (arith, ints)

            spread : (k' l' fv gv hv : ℤ) → less k' l' fv (less k m gv hv) ≡ less_both (k' *ℤ k) l' (k' *ℤ m) fv gv hv
            spread k' l' fv gv hv = equal (k' ∷ l' ∷ k ∷ m ∷ fv ∷ gv ∷ hv ∷ [])
                (difference (product (at 0) (difference (product (at 2) (at 6)) (product (at 3) (at 5)))) (product (at 1) (at 4)))
                (difference (difference (product (product (at 0) (at 2)) (at 6)) (product (at 1) (at 4))) (product (product (at 0) (at 3)) (at 5)))
                refl
