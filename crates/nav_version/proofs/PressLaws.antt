-- What a press keeps when it shows something.
use Rattle.std.proofs.Common.{◌≡◌, Bool, true, false, List, [], ◌++◌, Option, Some, sym, ap, ◌∙◌, subst, append-nil, append_assoc}
use Rattle.std.specs.Prelude.{MatchBool}
use Rattle.std.specs.Arc.{arc_value}
use mathlib.Core.List.{IsPrefix}
use Rattle.nav_ground.specs.declared.history.Entry.{Entry}
use Rattle.nav_version.specs.declared.version.PublishedVersion.{PublishedVersion}
use Rattle.nav_version.specs.Lists.{ToldView}
use Rattle.nav_version.specs.VersionRule.{GoesOn, IsKept, IsShown}
use Rattle.nav_version.specs.Versions.{IsVersion}
use Rattle.nav_version.proofs.Beginnings.{IsPrefix-self, IsPrefix-trans}

-- it shows what has the whole history
pub IsKept-whole : (told history : ToldView) → told ≡ history → IsKept told history (Some [])
IsKept-whole told history same = record {
  pair = ap (λ (t : ToldView). t.pair) same;
  begins = subst (λ (t : ToldView). IsPrefix told.entries t.entries) same (IsPrefix-self told.entries);
  whole = ap (λ (t : ToldView). t.entries) (sym same) ∙ sym (append-nil told.entries);
}

-- the entries with which the history was ahead begin those that are to be shown, and the others were added
pub all_added : (told history grown : ToldView) (ahead more rest : List Entry) → IsKept told history (Some ahead) → more ≡ ahead ++ rest
    → grown.entries ≡ history.entries ++ rest → grown.entries ≡ told.entries ++ more
all_added told history grown ahead more rest kept begun added =
    added ∙ ap (λ (list : List Entry). list ++ rest) kept.whole ∙ append_assoc told.entries ahead rest ∙ ap (λ (list : List Entry). told.entries ++ list) (sym begun)

pub left_behind : (left more : List Entry) (b : Bool) → MatchBool b (left ≡ []) (left ≡ more) → MatchBool b (Some left ≡ Some []) (Some left ≡ Some more)
left_behind left more true is = ap Some is
left_behind left more false is = ap Some is

-- the history has grown by the entries that were to be shown, and it shows what has the whole history, or what it showed
pub IsKept-grown : (before after next : PublishedVersion) (history grown : ToldView) (ahead more : List Entry) (left : Option (List Entry)) (b : Bool) → IsKept before.told history (Some ahead)
    → grown.pair ≡ history.pair → IsPrefix history.entries grown.entries → grown.entries ≡ before.told.entries ++ more → next.told ≡ grown
    → MatchBool b (left ≡ Some []) (left ≡ Some more) → MatchBool b (after ≡ next) (after ≡ before) → IsKept after.told grown left
IsKept-grown before after next history grown ahead more left true kept pair begins all told is same =
    subst (IsKept after.told grown) (sym is) (IsKept-whole after.told grown (ap (λ (s : PublishedVersion). s.told) same ∙ told))
IsKept-grown before after next history grown ahead more left false kept pair begins all told is same =
    subst (IsKept after.told grown) (sym is) (subst (λ (s : PublishedVersion). IsKept s.told grown (Some more)) (sym same) (record {
      pair = kept.pair ∙ sym pair;
      begins = IsPrefix-trans before.told.entries history.entries grown.entries kept.begins begins;
      whole = all;
    }))

-- the next version with the history so grown is right
pub IsShown-grown : (told grown : ToldView) (next : PublishedVersion) (more : List Entry) → IsVersion next.version → next.told ≡ grown
    → grown.entries ≡ told.entries ++ more → next.version.entries ≡ told.entries ++ more → IsShown next
IsShown-grown told grown next more rules' told_is all entries =
    record { rules = rules'; list = ap (λ (t : ToldView). t.entries) told_is ∙ all ∙ sym entries }

-- the next version with the history so grown goes on from what is shown
pub GoesOn-grown : (before next : PublishedVersion) (history grown : ToldView) (ahead : Option (List Entry)) → IsKept before.told history ahead → grown.pair ≡ history.pair
    → IsPrefix history.entries grown.entries → next.told ≡ grown → arc_value next.version.ground ≡ arc_value before.version.ground → GoesOn before next
GoesOn-grown before next history grown ahead kept pair begins told ground =
    let same_pair : before.told.pair ≡ next.told.pair = kept.pair ∙ sym pair ∙ sym (ap (λ (t : ToldView). t.pair) told) in
    record {
      same = λ i. (same_pair i, sym ground i);
      begins = IsPrefix-trans before.told.entries history.entries next.told.entries kept.begins
          (subst (λ (t : ToldView). IsPrefix history.entries t.entries) (sym told) begins);
    }
