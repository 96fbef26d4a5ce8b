-- The derived equality looks at three fields; columns alone determine a header (`same_header`), and a header all three.
use Rattle.cif_records.proofs.Names.{Header, and_parts, ap, arith, bytes_decides, nat_eq, nat_tests, pointwise, true, ◌≡◌}
use Rattle.cif_records.proofs.Headers.{same_header}
use Rattle.cif_records.proofs.header.Header.equality_of_headers.Goals as goal

pub returns : goal.returns
returns c h k =
    let known = bytes_decides h.columns k.columns in (
      λ eq. same_header h k (known.0 (and_parts _ _ eq).0),
      λ same.
          let columns : pointwise nat_eq h.columns k.columns ≡ true = known.1 (ap (λ (j : Header). j.columns) same) in
          let first_is = ap (λ (j : Header). j.first) same in
          let last_is = ap (λ (j : Header). j.last) same in
          let first : nat_eq h.first k.first ≡ true = grind (arith, nat_tests) in
          let last : nat_eq h.last k.last ≡ true = grind (arith, nat_tests) in
          rw (columns, first, last),
    )
