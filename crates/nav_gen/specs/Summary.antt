-- The summary of the play of a made input: six lines.
use Rattle.std.specs.Prelude.{ℕ, List, [], ◌∷◌, ◌++◌, codes}
use Rattle.nav_text.specs.Lines.{text_of}
use Rattle.nav_text.specs.Forms.{line_text}
use Rattle.nav_record.specs.declared.step.Totals.{Totals}

-- what was made; how many bytes and lines the input has; the history's length and the published one; how many paths were found and how many
-- questions had no path, no start and no goal; what the paths cost together; and the polygons and directed links of the last mesh
abbrev pub summary_text : (number size bytes lines : ℕ) → Totals → List ℕ
summary_text number size bytes lines totals = text_of (
    line_text (codes "gen") (number ∷ size ∷ [])
    ∷ line_text (codes "input") (bytes ∷ lines ∷ [])
    ∷ (line_text (codes "history") (totals.entries ∷ []) ++ line_text (codes " published") (totals.published ∷ []))
    ∷ (line_text (codes "paths") (totals.paths ∷ []) ++ line_text (codes " nopath") (totals.nopath ∷ [])
    ++ line_text (codes " nostart") (totals.nostart ∷ []) ++ line_text (codes " nogoal") (totals.nogoal ∷ []))
    ∷ line_text (codes "cost") (totals.cost ∷ [])
    ∷ line_text (codes "mesh") (totals.polys ∷ totals.links ∷ []) ∷ [])
