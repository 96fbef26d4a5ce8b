-- The call that a line spells.
use Rattle.cif_extract.proofs.Names.{All, All-tail, At, Bool, Call, List, SpellsChange, SpellsRecord, SpellsSomeCall, SpellsStop, Turn, []}
use Rattle.cif_extract.proofs.Names.{ap, arith, before_last, bytes_eq, call_in, call_record, change_in, codes, columns, drop, false, get_or}
use Rattle.cif_extract.proofs.Names.{length, map, nat_eq, nat_tests, stop_in, subst, suc, sym, take, true, ℕ, ◌-◌, ◌<◌, ◌∙◌, ◌∷◌, ◌≡◌}
use Rattle.cif_records.proofs.{Changes.change_in-spells, Stops.stop_in-spells}

-- what a call's line spells is what stands in it
pub call_in-spells : (line : List ℕ) (call : Call) → SpellsRecord line (call_record call) → call_in line ≡ call
call_in-spells line (At stop) s = rw s.0 (ap At (stop_in-spells line stop s))
call_in-spells line (Turn change) s = rw s.0 (ap Turn (change_in-spells line change s))

-- a line that spells some call spells what stands in it
spelled : (line : List ℕ) → SpellsSomeCall line → SpellsRecord line (call_record (call_in line))
spelled line h = subst (λ call. SpellsRecord line (call_record call)) (sym (call_in-spells line h.0 h.1)) h.1

module _ (line letters : List ℕ) (h : SpellsSomeCall line) (there : letters ≡ columns 1 2 line) where
  -- by its columns 1 and 2 it is a change
  pub turned : bytes_eq letters (codes "CR") ≡ true → (call_in line ≡ Turn (change_in line)) × SpellsChange line (change_in line)
  turned e =
      let test : bytes_eq (columns 1 2 line) (codes "CR") ≡ true = ap (λ l. bytes_eq l (codes "CR")) (sym there) ∙ e in
      let it : call_in line ≡ Turn (change_in line) = rw test in
      (it, subst (λ call. SpellsRecord line (call_record call)) it (spelled line h))

  -- or a location
  pub stopped : bytes_eq letters (codes "CR") ≡ false → (call_in line ≡ At (stop_in line)) × SpellsStop line (stop_in line)
  stopped e =
      let test : bytes_eq (columns 1 2 line) (codes "CR") ≡ false = ap (λ l. bytes_eq l (codes "CR")) (sym there) ∙ e in
      let it : call_in line ≡ At (stop_in line) = rw test in
      (it, subst (λ call. SpellsRecord line (call_record call)) it (spelled line h))

-- where a test of their length says so, there are some lines
pub some_lines : (lines : List (List ℕ)) (none : Bool) → none ≡ nat_eq (length lines) 0 → none ≡ false → 0 < length lines
some_lines lines none is other = grind (arith, nat_tests, is, other)

-- where others follow the first of some lines, it stands before the last
pub first_before_last : (lines others : List (List ℕ)) (first : List ℕ) → 0 < length lines → first ≡ get_or lines 0 []
    → others ≡ drop 1 lines → 0 < length others → before_last lines ≡ first ∷ before_last others
first_before_last [] others first some a b more = absurd (omega (arith, some))
first_before_last (line ∷ lines) others first some a b more =
    let count : length (line ∷ lines) - 1 ≡ suc (length others - 1) = omega (arith, more, ap length b) in
    ap (λ n. take n (line ∷ lines)) count ∙ ap (λ l. line ∷ take (length others - 1) l) (sym b) ∙ ap (λ l. l ∷ before_last others) (sym a)

-- each call of the lines is spelled, and so is each of the rest
pub first_and_rest : (lines others : List (List ℕ)) (first : List ℕ) → lines ≡ first ∷ others → All SpellsSomeCall lines
    → SpellsSomeCall first × All SpellsSomeCall others
first_and_rest lines others first is h =
    let there = subst (All SpellsSomeCall) is h in
    (there 0 [] (omega arith), All-tail SpellsSomeCall first others there)

-- what one call of `next` takes and leaves
module _ (now : List Call) (lines others : List (List ℕ)) (first : List ℕ) (call : Call) (view_is : map call_in lines ≡ now)
    (is : lines ≡ first ∷ others) (read : call ≡ call_in first) where
  pub first_call : now ≡ call ∷ map call_in others
  first_call = sym view_is ∙ ap (map call_in) is ∙ ap (λ c. c ∷ map call_in others) (sym read)
