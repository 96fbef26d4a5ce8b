-- Columns that are copied into a buffer, after what it has.
use Rattle.cif_rows.proofs.Names.{List, ap, arith, length, length-take-le, refl, sym, take, take-append-add, take-take, ℕ, ◌++◌, ◌+◌, ◌∙◌, ◌≡◌}
use Rattle.cif_rows.proofs.Names.{◌≤◌}
use borrow.Rule.Slice.PartMut.{put_mid}
use Rattle.std.proofs.lemmas.Slice.{take-put_mid}

-- so many of them count
pub columns-appended : (bytes columns copied : List ℕ) (len count k : ℕ) → len + length columns ≤ length bytes → copied ≡ columns →
    count ≤ length columns → take (len + count) (put_mid len k bytes copied) ≡ take len bytes ++ take count columns
columns-appended bytes columns copied len count k room same some =
    let few = ap length same in
    let kept = length-take-le len bytes (omega (arith, room)) in
    let all = take-put_mid len k bytes copied (len + length copied) refl (omega (arith, room, few)) in
    let number : len + count ≡ length (take len bytes) + count = omega (arith, kept) in
    sym (take-take (len + count) (len + length copied) (put_mid len k bytes copied) (omega (arith, some, few)))
    ∙ ap (take (len + count)) all
    ∙ ap (λ n. take n (take len bytes ++ copied)) number
    ∙ take-append-add (take len bytes) copied count
    ∙ ap (λ (cs : List ℕ). take len bytes ++ take count cs) same
