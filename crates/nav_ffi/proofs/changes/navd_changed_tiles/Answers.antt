use Rattle.std.proofs.Common.{◌≡◌, ℕ, ◌≤◌, List, length, Option, Some, refl, subst, ap, ◌∙◌, arith, inl, inr}
use Rattle.build_queue.specs.BookState.{BookState}
use Rattle.nav_handle.specs.Wire.{laid}
use Rattle.nav_ffi.specs.Changing.{AreChanged, AreTilesSince}
use Rattle.nav_ffi.proofs.changes.navd_changed_tiles.Goals as goal

-- the tiles of a level at hand are told
told_of : (held : Option BookState) (state first seen : BookState) (since published count : ℕ) (tiles slice before room : List ℕ) (n : ℕ)
    → Some state ≡ held → first ≡ state → seen ≡ state → published ≡ first.published → since ≤ published → AreTilesSince seen since tiles
    → count ≡ length tiles → slice ≡ tiles → room ≡ laid slice before → AreChanged held since (n, before) (count, room) 0
told_of held state first seen since published count tiles slice before room n here same again shown within right counted lent laid' =
    let much : since ≤ state.published = omega (arith, within, shown, ap (λ (s : BookState). s.published) same) in
    subst (λ (h : Option BookState). AreChanged h since (n, before) (count, room) 0) here
    (inr (
      much,
      inl (record {
        answer = tiles;
        is_right = subst (λ (s : BookState). AreTilesSince s since tiles) again right;
        status = refl;
        rooms = λ i. (counted i, (laid' ∙ ap (λ (list : List ℕ). laid list before) lent) i);
      }),
    ))

pub returns-clause-told : goal.returns-clause-told
returns-clause-told c =
    told_of _ c.in-Some.held.value c.deref.result.now c.deref-2.result.now c.args.since c.published.result c.len.result c.in-Ok.changed c.as_slice.result.now
    c.args.tiles.now c.lay_numbers.new.room c.args.count.now c.in-Some.ensures.taken c.deref.ensures c.deref-2.ensures c.published.ensures.value
    c.if-published-since.false
    (record { exact = c.in-Ok.ensures.exact; rising = c.in-Ok.ensures.rising; frame = c.in-Ok.ensures.frame; links = c.in-Ok.ensures.links })
    c.len.ensures c.as_slice.ensures c.lay_numbers.ensures
