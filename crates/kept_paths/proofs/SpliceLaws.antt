-- Two walks that follow each other, joined where they meet first, are a walk.
use Rattle.std.proofs.Common.{◌≡◌, ℕ, zero, suc, ◌+◌, ◌-◌, ◌≤◌, ◌<◌, List, [], ◌∷◌, ◌++◌, length, take, drop, get_or, refl, sym, subst, ap, ◌∙◌, inl, inr, arith}
use Rattle.std.proofs.lemmas.Bool.{cases_lt}
use Rattle.std.proofs.lemmas.List.{drop_all, drop_more, get_or_default, take_all, take_more}
use Rattle.std.proofs.lemmas.List.Elements.{Contains-push_cases}
use Rattle.mesh_types.specs.declared.links.Link.{Link}
use Rattle.mesh_types.specs.declared.links.PolyRef.{PolyRef}
use Rattle.mesh_types.specs.declared.mesh.Mesh.{Mesh}
use Rattle.mesh_types.proofs.WalkChains.{some_link}
use Rattle.path_queries.specs.Filters.{AllowedTo}
use Rattle.kept_paths.specs.Repairs.{AreApart}
use Rattle.kept_paths.specs.Splices.{IsMeeting, StandsAt, StandsNowhere}
use Rattle.kept_paths.proofs.WalkParts.{join, split-at, stays}

-- what is left of two lists without the first so many
pub drop-both : {X : Type 0} (n : ℕ) (xs ys : List X) → drop n (xs ++ ys) ≡ drop n xs ++ drop (n - length xs) ys
drop-both zero xs ys =
    let e : 0 ≡ 0 - length xs = omega (arith) in
    ap (λ (k : ℕ). xs ++ drop k ys) e
drop-both (suc n) [] ys =
    let e : suc n ≡ suc n - 0 = omega (arith) in
    ap (λ (k : ℕ). drop k ys) e
drop-both (suc n) (x ∷ xs) ys =
    let e : suc n - suc (length xs) ≡ n - length xs = omega (arith) in
    drop-both n xs ys ∙ ap (λ (k : ℕ). drop n xs ++ drop k ys) (sym e)

module _ (mesh : Mesh) (areas : ℕ) where
  -- a walk goes on from where it stands
  goes-on : (from : PolyRef) (links : List Link) (last at : PolyRef) (place : ℕ) → AllowedTo mesh areas from links last → StandsAt links last at place
      → AllowedTo mesh areas at (drop place links) last
  goes-on from links last at place walk stands =
      elim (cases_lt place (length links)) [
        | inl inside ↦
            let cut = split-at mesh areas place from links last walk in
            let next = subst (λ (ls : List Link). AllowedTo mesh areas cut.at ls last) (drop_more links place some_link inside) cut.back in
            let same : cut.at ≡ at = sym next.walks.1 ∙ stands.inside some_link inside in
            subst (λ (p : PolyRef). AllowedTo mesh areas p (drop place links) last) same cut.back
        | inr outside ↦
            let end : place ≡ length links = omega (arith, outside, stands.within) in
            subst (λ (ls : List Link). AllowedTo mesh areas at ls last) (sym (drop_all place links (omega (arith, end))))
            (stays mesh areas at last (sym (stands.end end)))
      ]

  pub splice-walk : (from : PolyRef) (links : List Link) (at : PolyRef) (more : List Link) (last : PolyRef) (taken dropped : ℕ)
      → AllowedTo mesh areas from links at → AllowedTo mesh areas at more last → IsMeeting links more last taken dropped
      → AllowedTo mesh areas from (take taken links ++ drop dropped more) last
  splice-walk from links at more last taken dropped walk walk' meeting =
      elim meeting.meets [
        | inl apart ↦
            subst (λ (n : ℕ). AllowedTo mesh areas from (take taken links ++ drop n more) last) (sym apart.1)
            (subst (λ (ls : List Link). AllowedTo mesh areas from (ls ++ more) last) (sym (take_all taken links (omega (arith, apart.0))))
            (join mesh areas from at last links more walk walk'))
        | inr meets ↦
            let cut = split-at mesh areas taken from links at walk in
            let next = subst (λ (ls : List Link). AllowedTo mesh areas cut.at ls at) (drop_more links taken some_link meets.2) cut.back in
            let same : meets.0 ≡ cut.at = sym (meets.3 some_link) ∙ next.walks.1 in
            let rest = subst (λ (p : PolyRef). AllowedTo mesh areas p (drop dropped more) last) same (goes-on at more last meets.0 dropped walk' meets.1) in
            join mesh areas from cut.at last (take taken links) (drop dropped more) cut.front rest
      ]

-- ---- a scan

none-apart : (more : List Link) (last : PolyRef) → AreApart [] more last
none-apart more last = record {
  leave = λ a b held held' same. omega (arith, held.1);
  end = λ a held same. omega (arith, held.1);
}

pub apart-none : (links more : List Link) (last : PolyRef) → links ≡ [] → AreApart links more last
apart-none links more last is = subst (λ (ls : List Link). AreApart ls more last) (sym is) (none-apart more last)

-- one more
pub apart-more : (links more : List Link) (last : PolyRef) (link : Link) → AreApart links more last → StandsNowhere more last link.from
    → AreApart (links ++ link ∷ []) more last
apart-more links more last link apart nowhere = record {
  leave = λ a b held held' same.
      elim (Contains-push_cases links link a held) [
        | inl before ↦ apart.leave a b before held' same
        | inr is ↦ nowhere.none b held' (sym same ∙ sym (ap (λ (l : Link). l.from) is))
      ];
  end = λ a held same.
      elim (Contains-push_cases links link a held) [
        | inl before ↦ apart.end a before same
        | inr is ↦ nowhere.not_last (sym same ∙ sym (ap (λ (l : Link). l.from) is))
      ];
}

-- ---- where a walk stands

pub stands-inside : (links : List Link) (last at : PolyRef) (place : ℕ) (e : Link) → place < length links → (get_or links place e).from ≡ at
    → StandsAt links last at place
stands-inside links last at place e there is = record {
  within = omega (arith, there);
  inside = λ d inside. ap (λ (l : Link). l.from) (get_or_default links place d e there) ∙ is;
  end = λ end. absurd (omega (arith, end, there));
}

pub stands-end : (links : List Link) (last at : PolyRef) → last ≡ at → StandsAt links last at (length links)
stands-end links last at is = record {
  within = omega (arith);
  inside = λ d inside. absurd (omega (arith, inside));
  end = λ end. is;
}

pub dropped-within : (links more : List Link) (last : PolyRef) (taken dropped : ℕ) → IsMeeting links more last taken dropped → dropped ≤ length more
dropped-within links more last taken dropped is =
    elim is.meets [ inl apart ↦ omega (arith, apart.1) | inr meets ↦ meets.1.within ]

pub meets-inside : (links more : List Link) (last at : PolyRef) (taken dropped : ℕ) (e : Link) → taken < length links → AreApart (take taken links) more last
    → (get_or links taken e).from ≡ at → StandsAt more last at dropped → IsMeeting links more last taken dropped
meets-inside links more last at taken dropped e there apart is stands = record {
  within = omega (arith, there);
  apart = apart;
  meets = inr (at, stands, there, λ d. ap (λ (l : Link). l.from) (get_or_default links taken d e there) ∙ is);
}

pub meets-nowhere : (links more : List Link) (last : PolyRef) (n : ℕ) → length links ≤ n → AreApart (take n links) more last
    → IsMeeting links more last (length links) 0
meets-nowhere links more last n end apart = record {
  within = omega (arith);
  apart =
      subst (λ (ls : List Link). AreApart ls more last) (take_all n links end ∙ sym (take_all (length links) links (omega (arith)))) apart;
  meets = inl (refl, refl);
}

pub apart-next : (links more : List Link) (last : PolyRef) (n : ℕ) (e : Link) → n < length links → AreApart (take n links) more last
    → StandsNowhere more last (get_or links n e).from → AreApart (take (n + 1) links) more last
apart-next links more last n e there apart nowhere =
    subst (λ (ls : List Link). AreApart ls more last) (sym (take_more links n e there)) (apart-more (take n links) more last (get_or links n e) apart nowhere)
