-- LinkIndex: links in the order of the polygons that they leave, and where those of each polygon begin.
use Rattle.std.specs.Prelude.{◌≡◌, ℕ, ◌+◌, ◌<◌, Bool, nat_lt, ◌==◌, min, List, map, filter, All}
use Rattle.std.specs.List.{count_by, range_with_len}
use Rattle.std.specs.List.Sorted.{IsNonDecreasingBy}
use Rattle.mesh_types.specs.declared.links.PolyRef.{PolyRef}
use Rattle.mesh_types.specs.declared.links.Link.{Link}

-- links stand in the order of the polygons that they leave
abbrev pub AreOrderedLinks : List Link → Type 0
AreOrderedLinks links = IsNonDecreasingBy (λ (link : Link). link.from.index) links

-- links leave polygons numbered below a number
abbrev pub AreBelow : ℕ → List Link → Type 0
AreBelow polygons links = All (λ (link : Link). link.from.index < polygons) links

-- the links that leave the polygon with a number
abbrev pub leaving_of : ℕ → List Link → List Link
leaving_of polygon links = filter (λ (link : Link). link.from.index == polygon) links

-- a link leaves a polygon before the one with a number
abbrev pub is_before_polygon : ℕ → Link → Bool
is_before_polygon polygon link = nat_lt link.from.index polygon

-- a start as it is kept: the greatest number of 32 bits stands for all starts from it on
abbrev pub kept_start : ℕ → ℕ
kept_start start = min start 4294967295

-- for each polygon, and the number after the last, how many links leave earlier ones, as it is kept
abbrev pub starts_of : List Link → ℕ → List ℕ
starts_of links polygons = map (λ polygon. kept_start (count_by (is_before_polygon polygon) links)) (range_with_len 0 (polygons + 1))

-- the starts stand beside ordered links of polygons below a number
pub record IsIndexed (links : List Link) (starts : List ℕ) : Type 0 where
  pub polygons : ℕ
  pub order : AreOrderedLinks links
  pub within : AreBelow polygons links
  pub starts_are : starts ≡ starts_of links polygons

-- the polygon that a link enters
abbrev pub entered_by : Link → PolyRef
entered_by link = link.to

-- the starts stand beside ordered links, and so do the polygons that the links enter
pub record AreKept (links : List Link) (starts : List ℕ) (entered : List PolyRef) : Type 0 where
  pub indexed : IsIndexed links starts
  pub entered_are : entered ≡ map entered_by links
