use Rattle.std.proofs.Common.{rules, [], ◌∷◌, refl}
use Rattle.std.proofs.lemmas.List.Elements.{All-nil, All-cons}
use Rattle.nav_ground.specs.Levels.{IsSmallLevel}
use Rattle.tests_ground.proofs.rows.cell.Goals as goal

pub returns-clause-small : goal.returns-clause-small
returns-clause-small c = record {
  x = c.place.ensures.x;
  z = c.place.ensures.z;
  level = c.place.ensures.level;
  floor = search rules;
  ceiling = search rules;
  area = search rules;
  sides = refl;
  levels =
      All-cons IsSmallLevel c.named.result (c.named-2.result ∷ c.named-3.result ∷ c.named-4.result ∷ []) c.named.ensures.small
      (All-cons IsSmallLevel c.named-2.result (c.named-3.result ∷ c.named-4.result ∷ []) c.named-2.ensures.small
      (All-cons IsSmallLevel c.named-3.result (c.named-4.result ∷ []) c.named-3.ensures.small
      (All-cons IsSmallLevel c.named-4.result [] c.named-4.ensures.small (All-nil IsSmallLevel))));
}
