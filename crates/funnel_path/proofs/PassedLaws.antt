-- The portals that are passed over, one more at a time.
use Rattle.std.proofs.Common.{◌≡◌, ℕ, ◌+◌, ◌-◌, ◌≤◌, ◌<◌, pos, ◌⊎◌, inl, inr, List, length, sym, subst, arith}
use Rattle.std.proofs.lemmas.Bool.{cases_eq}
use Rattle.nav_base.specs.declared.point.Point.{Point}
use Rattle.nav_base.specs.Point.{orient_of}
use Rattle.mesh_types.specs.declared.links.Portal.{Portal}
use Rattle.mesh_types.specs.Chains.{IsBehind, IsChain, IsFold, portal_at}
use Rattle.funnel_path.specs.PassedOver.{ArePassed, IsInLine, IsInside, LookAlike, LookOpposite}
use Rattle.funnel_path.proofs.ChainLaws.{chain_behind}
use Rattle.funnel_path.proofs.LineLaws.{between-behind, between-not_negative, in_line-ways, in_line_turned, inside_parts}
use Rattle.funnel_path.proofs.FoldLaws.{folds_inside}

pub passed_none : (apex : Point) (portals : List Portal) (first : ℕ) → ArePassed apex portals first first
passed_none apex portals first =
    record { inside = λ m low high. absurd (omega arith); in_line = λ m low high. absurd (omega arith); alike = λ m low high. absurd (omega arith) }

pub passed_fewer : (apex : Point) (portals : List Portal) (first end fewer : ℕ) → fewer ≤ end → ArePassed apex portals first end → ArePassed apex portals first fewer
passed_fewer apex portals first end fewer less passed =
    record {
      inside = λ m low high. passed.inside m low (omega arith);
      in_line = λ m low high. passed.in_line m low (omega arith);
      alike = λ m low high. passed.alike m low (omega arith);
    }

-- the apex lies behind the next portal or on its line
pub passed_behind : (start : Point) (portals : List Portal) (goal apex : Point) (first place : ℕ) → IsChain start portals goal → first ≤ place → place < length portals
    → (first < length portals → IsBehind (portal_at portals first) apex) → ArePassed apex portals first place → IsBehind (portal_at portals place) apex
passed_behind start portals goal apex first place chain from there behind passed =
    elim (cases_eq first place) [
      | inl same ↦ subst (λ (n : ℕ). IsBehind (portal_at portals n) apex) same (behind (omega arith))
      | inr other ↦ after (place - 1) (omega arith) (omega arith)
    ]
  where
    after : (m : ℕ) → m + 1 ≡ place → first ≤ m → IsBehind (portal_at portals place) apex
    after m next low =
        let ends = chain_behind start portals goal m chain (omega arith) in
        subst (λ (n : ℕ). IsBehind (portal_at portals n) apex) next
        (between-not_negative (portal_at portals (m + 1)).right (portal_at portals (m + 1)).left apex (portal_at portals m).right (portal_at portals m).left
        (inside_parts apex (portal_at portals m) (passed.inside m low (omega arith))) ends.left ends.right)

-- the next portal lies on the line of the last one that was passed over, where the apex lies on its line
pub passed_in_line : (start : Point) (portals : List Portal) (goal apex : Point) (m : ℕ) → IsChain start portals goal → m + 1 < length portals
    → IsInside apex (portal_at portals m) → orient_of (portal_at portals (m + 1)).right (portal_at portals (m + 1)).left apex ≡ pos 0 → IsInLine (portal_at portals m) (portal_at portals (m + 1))
passed_in_line start portals goal apex m chain there inside on_line =
    let ends = chain_behind start portals goal m chain there in
    in_line_turned (portal_at portals m) (portal_at portals (m + 1)) (chain.wide (m + 1) there)
    (between-behind (portal_at portals (m + 1)).right (portal_at portals (m + 1)).left apex (portal_at portals m).right (portal_at portals m).left (inside_parts apex (portal_at portals m) inside) on_line ends.left ends.right)

-- and then it looks the same way, or folds back
pub passed_alike : (start : Point) (portals : List Portal) (goal : Point) (m : ℕ) → IsChain start portals goal → m + 1 < length portals
    → IsInLine (portal_at portals m) (portal_at portals (m + 1)) → (LookOpposite (portal_at portals m) (portal_at portals (m + 1)) → ⊥) → LookAlike (portal_at portals m) (portal_at portals (m + 1))
passed_alike start portals goal m chain there line other =
    elim (in_line-ways (portal_at portals m) (portal_at portals (m + 1)) (chain.wide m (omega arith)) (chain.wide (m + 1) there) line) [ inl same ↦ same | inr opposite ↦ absurd (other opposite) ]

pub passed_fold : (start : Point) (portals : List Portal) (goal apex : Point) (m : ℕ) → IsChain start portals goal → m + 1 < length portals
    → IsInside apex (portal_at portals m) → IsInside apex (portal_at portals (m + 1)) → LookOpposite (portal_at portals m) (portal_at portals (m + 1)) → IsFold (portal_at portals m) (portal_at portals (m + 1))
passed_fold start portals goal apex m chain there inside next opposite =
    folds_inside (portal_at portals m) (portal_at portals (m + 1)) apex (passed_in_line start portals goal apex m chain there inside next.on_line) opposite inside next

-- one more portal is passed over
pub passed_more : (start : Point) (portals : List Portal) (goal apex : Point) (first place : ℕ) → IsChain start portals goal → place < length portals → ArePassed apex portals first place
    → IsInside apex (portal_at portals place) → ((m : ℕ) → first ≤ m → m + 1 ≡ place → LookOpposite (portal_at portals m) (portal_at portals (m + 1)) → ⊥) → ArePassed apex portals first (place + 1)
passed_more start portals goal apex first place chain there passed inside other =
    record {
      inside = λ m low high. each m low high (cases_eq m place);
      in_line = λ m low high. elim (cases_eq (m + 1) place) [ inl next ↦ line m low next | inr earlier ↦ passed.in_line m low (omega arith) ];
      alike = λ m low high. elim (cases_eq (m + 1) place) [
        | inl next ↦ passed_alike start portals goal m chain (omega arith) (line m low next) (other m low next)
        | inr earlier ↦ passed.alike m low (omega arith)
      ];
    }
  where
    each : (m : ℕ) → first ≤ m → m < place + 1 → (m ≡ place) ⊎ (m ≡ place → ⊥) → IsInside apex (portal_at portals m)
    each m low high (inl same) = subst (λ (n : ℕ). IsInside apex (portal_at portals n)) (sym same) inside
    each m low high (inr earlier) = passed.inside m low (omega arith)

    at_place : (m : ℕ) → m + 1 ≡ place → IsInside apex (portal_at portals (m + 1))
    at_place m next = subst (λ (n : ℕ). IsInside apex (portal_at portals n)) (sym next) inside

    line : (m : ℕ) → first ≤ m → m + 1 ≡ place → IsInLine (portal_at portals m) (portal_at portals (m + 1))
    line m low next = passed_in_line start portals goal apex m chain (omega arith) (passed.inside m low (omega arith)) (at_place m next).on_line
