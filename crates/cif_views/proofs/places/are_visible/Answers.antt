-- The first byte that can't be seen decides.
use Rattle.cif_views.proofs.Names.{Bool, ap, at_drop_all, drop, refl, sym, ◌&&◌, ◌+◌, ◌∙◌}
use Rattle.std.proofs.lemmas.List.{at_drop_more}
use Rattle.std.specs.{Char.is_ascii_graphic, List.list_all}
use Rattle.cif_views.proofs.places.are_visible.Goals as goal

pub loop-byte-init : goal.loop-byte-init
loop-byte-init c = refl

pub returns-then-not-is_ascii_graphic : goal.returns-then-not-is_ascii_graphic
returns-then-not-is_ascii_graphic c =
    let word = c.args.word.now in
    let i = c.loop-byte.byte-index in
    ap (λ (b : Bool). b && list_all is_ascii_graphic (drop (i + 1) word)) c.if-not-is_ascii_graphic.ensures.value
    ∙ sym (at_drop_more (list_all is_ascii_graphic) word i 0 c.loop-byte-test.true)
    ∙ c.loop-byte.invariant

pub loop-byte-preserved : goal.loop-byte-preserved
loop-byte-preserved c =
    let word = c.args.word.now in
    let i = c.loop-byte.byte-index in
    ap (λ (b : Bool). b && list_all is_ascii_graphic (drop (i + 1) word)) c.if-not-is_ascii_graphic.ensures.value
    ∙ sym (at_drop_more (list_all is_ascii_graphic) word i 0 c.loop-byte-test.true)
    ∙ c.loop-byte.invariant

pub returns : goal.returns
returns c = sym (at_drop_all (list_all is_ascii_graphic) c.args.word.now c.loop-byte.byte-index c.loop-byte-test.false) ∙ c.loop-byte.invariant
