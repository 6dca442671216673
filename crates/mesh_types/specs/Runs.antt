-- Runs: maximal runs of places with one label.
use Rattle.std.specs.Prelude.{ℕ, ◌+◌, ◌-◌, Bool, false, not, ◌==◌, ◌||◌, if◌then◌else◌, List, length, drop, get_or, Option, Some, None}
use Rattle.std.specs.List.{prefix_len, range_with_len, filter_map}
use Rattle.mesh_types.specs.declared.region.LabelRun.{LabelRun}

-- a place has a label
abbrev pub has_label : ℕ → Option ℕ → Bool
has_label label (Some own) = own == label
has_label label None = false

-- the maximal run that begins at a place with a label, where the place before it has another, or none, or is not there: it ends before the
-- next place that does not have the label
abbrev pub run_with : List (Option ℕ) → ℕ → Option ℕ → Option LabelRun
run_with labels place None = None
run_with labels place (Some label) =
    if place == 0 || not (has_label label (get_or labels (place - 1) None))
    then Some (record { first = place; last = place + prefix_len (has_label label) (drop (place + 1) labels); label = label })
    else None

-- the maximal runs of places with one label, in order
unfoldable pub runs_of : List (Option ℕ) → List LabelRun
runs_of labels = filter_map (λ place. run_with labels place (get_or labels place None)) (range_with_len 0 (length labels))

-- the maximal runs of places where a test holds, which all get the label 0
abbrev pub label_if : Bool → Option ℕ
label_if holds = if holds then Some 0 else None
