-- Laws: what it means that two moves are clear of each other.
use Rattle.std.specs.Prelude.{◌≡◌, ℕ, true, false, ◌⊎◌, IsTrue}
use Rattle.nav_base.specs.Point.{from_to}
use Rattle.crowd_moves.specs.declared.agents.CrowdAgent.{CrowdAgent}
use Rattle.crowd_moves.specs.declared.agents.CrowdMove.{CrowdMove}
use Rattle.crowd_moves.specs.Beyond.{KeepsBeyond}
use Rattle.crowd_moves.specs.Pairs.{is_apart, do_pass_apart, touching_square, square_between, IsClear}

-- two that are apart are apart at every moment of the step, ends included: they pass over other storeys, or their discs have no common inner point
abbrev pub DoStayApart : Type 0
DoStayApart = (height : ℕ) (a b : CrowdAgent) (m n : CrowdMove) → IsClear height a b m n → is_apart height a b ≡ true
    → IsTrue (do_pass_apart height m n) ⊎ KeepsBeyond (touching_square a b) (from_to a.at b.at) (from_to m.by n.by)

-- two that overlap come at no moment nearer than they are, if they do not pass over other storeys
abbrev pub ComeNoNearer : Type 0
ComeNoNearer = (height : ℕ) (a b : CrowdAgent) (m n : CrowdMove) → IsClear height a b m n → is_apart height a b ≡ false
    → IsTrue (do_pass_apart height m n) ⊎ KeepsBeyond (square_between a b) (from_to a.at b.at) (from_to m.by n.by)
