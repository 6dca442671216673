use Rattle.tri_raster.proofs.TextLaws.{found_of, no_header_fault, only_of, no_tris_fault, first_of}
use Rattle.tri_raster.proofs.text.read_triangles.Goals as goal

pub returns-in-Err-clause-only : goal.returns-in-Err-clause-only
returns-in-Err-clause-only c setting header tris there = absurd (no_header_fault _ _ _ c.read_header.ensures.only c.in-Err.is setting header tris there)

pub returns-in-Ok-read_tris-clause-found : goal.returns-in-Ok-read_tris-clause-found
returns-in-Ok-read_tris-clause-found c =
    found_of _ _ c.in-Ok.header _ _ c.in-Ok.ensures.setting c.in-Ok.ensures.found c.in-Ok.ensures.used c.split_at.ensures.back c.read_tris.ensures c.in-Ok-read_tris.is

pub returns-in-Ok-read_tris-clause-only : goal.returns-in-Ok-read_tris-clause-only
returns-in-Ok-read_tris-clause-only c =
    only_of _ _ _ c.in-Ok.header _ _ c.read_header.ensures.only c.in-Ok.is c.split_at.ensures.back c.read_tris.ensures c.in-Ok-read_tris.is

pub returns-in-Err-read_tris-clause-only : goal.returns-in-Err-read_tris-clause-only
returns-in-Err-read_tris-clause-only c =
    no_tris_fault _ _ _ c.in-Ok.header _ _ c.read_header.ensures.only c.in-Ok.is c.split_at.ensures.back c.read_tris.ensures c.in-Err-read_tris.is

pub returns-in-Err-read_tris-clause-first : goal.returns-in-Err-read_tris-clause-first
returns-in-Err-read_tris-clause-first c =
    first_of _ _ c.in-Ok.header _ _ c.in-Ok.ensures.setting c.in-Ok.ensures.found c.in-Ok.ensures.lines c.in-Ok.ensures.on c.split_at.ensures.back c.read_tris.ensures
    c.in-Err-read_tris.is
