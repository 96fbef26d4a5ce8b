-- What a chain of checks says.
use Rattle.cif_records.proofs.Names.{Err, IsJudged, List, None, Ok, Option, Refusal, Result, Some, StandsInYymmdd, ap, are, arith}
use Rattle.cif_records.proofs.Names.{bytes_decides, codes, dates_refusal, day_number, false, false_from_ne_true, last_date_refusal, nat_le}
use Rattle.cif_records.proofs.Names.{nat_tests, sym, true, yymmdd_in, yymmdd_in-stands, ℕ, ◌∙◌, ◌≡◌, ◌≤◌}

-- the exit of a check that refused
pub judged_err : {T : Type 0} (P : T → Type 0) (refusal : Option Refusal) (result : Result T Refusal) (why : Refusal)
    → result ≡ Err why → refusal ≡ Some why → IsJudged refusal P result
judged_err P refusal result why e h = rw e h

-- a reason is there or not
pub none-some : (refusal : Option Refusal) (why : Refusal) → refusal ≡ None → refusal ≡ Some why → ⊥
none-some refusal why e h = cc

-- where a line spells at most one record, and no record where there is a reason to refuse it, a judged reading gives exactly the record
pub only : {R : Type 0} (Spells : R → Type 0) (refusal : Option Refusal) (result : Result R Refusal)
    → ((r q : R) → Spells r → Spells q → r ≡ q)
    → ((r : R) → Spells r → refusal ≡ None) → IsJudged refusal Spells result → (r : R) → Spells r → result ≡ Ok r
only Spells refusal (Ok q) one fine judged r h = let same = one q r judged.1 h in cc
only Spells refusal (Err why) one fine judged r h = absurd (none-some refusal why (fine r h) judged)

-- two dates that name days, the second no open end and not before the first
pub dates_judged : (first last : List ℕ) (m n : ℕ) → yymmdd_in first ≡ Some m → last_date_refusal last ≡ None
    → yymmdd_in last ≡ Some n → m ≤ n → dates_refusal first last ≡ None
dates_judged first last m n a b c h =
    let test : nat_le m n ≡ true = grind (arith, nat_tests) in
    rw (b, a, c, test)

no_day : (columns : List ℕ) (n : ℕ) → columns ≡ codes "999999" → yymmdd_in columns ≡ Some n → ⊥
unfolding yymmdd_in day_number
no_day columns n e h = let none : ◌≡◌ {A = Option ℕ} None (Some n) = ap yymmdd_in (sym e) ∙ h in cc

-- columns in which a day stands are no open end
pub no_open_end : (columns : List ℕ) (n : ℕ) → StandsInYymmdd columns n → are columns (codes "999999") ≡ false
no_open_end columns n h =
    false_from_ne_true _ (λ is. no_day columns n ((bytes_decides columns (codes "999999")).0 is) (yymmdd_in-stands columns n h))

-- two dates that stand there, the second not before the first
pub dates_fine : (first last : List ℕ) (m n : ℕ) → StandsInYymmdd first m → StandsInYymmdd last n → m ≤ n → dates_refusal first last ≡ None
dates_fine first last m n a b c =
    let whole : last_date_refusal last ≡ None = rw (no_open_end last n b, yymmdd_in-stands last n b) in
    dates_judged first last m n (yymmdd_in-stands first m a) whole (yymmdd_in-stands last n b) c
