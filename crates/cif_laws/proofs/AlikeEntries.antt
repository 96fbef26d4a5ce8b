-- Entries of one key, with one letter and one body: no two of them clash, and two lists of them say the same where on each day both have
-- one that applies, or neither has.
use Rattle.std.proofs.Common.{Bool, Contains, List, None, Option, Some, [], ap, arith, false, leb-true, nat_le, refl, slice_get, subst, sym}
use Rattle.std.proofs.Common.{true, ℕ, ⊎_elim, ◌&&◌, ◌||◌, ◌∙◌, ◌∷◌, ◌≡◌, ◌≢◌, ◌≤◌}
use Rattle.std.proofs.lemmas.Bool.{and_from, and_parts, or_cases, or_left, or_right}
use Rattle.cif_calendar.proofs.Elements.{Contains-cases, Contains-first, Contains-rest}
use Rattle.cif_calendar.proofs.RisingLists.{Contains-none}
use Rattle.cif_calendar.specs.{Applies.Applies, Keys.AreClear, Keys.of_key, Meaning.EntriesSayTheSame, Runs.Runs, Terms.Terms, Wins.Wins}
use Rattle.cif_calendar.specs.{Wins.precedence}
use Rattle.cif_columns.proofs.Names.{nat_tests}
use Rattle.cif_columns.specs.{Day.weekday_of, Stp.letter as column_of}
use Rattle.cif_columns.specs.declared.{stp.Stp.Stp, stp.Stp.TheVariants.C}

-- ---- whether one of the entries applies on day d, by a test

abbrev is_set : Option Bool → Bool
is_set (Some true) = true
is_set other = false

set-is : (o : Option Bool) → is_set o ≡ true → o ≡ Some true
set-is (Some true) is = refl
set-is (Some false) is = cc
set-is None is = cc

module _ {B : Type 0} (d : ℕ) where
  abbrev applies_on : Terms B → Bool
  applies_on t = nat_le t.first d && (nat_le d t.last && is_set (slice_get t.days (weekday_of d)))

  applies-tested : (t : Terms B) → applies_on t ≡ true → Applies t d
  applies-tested t is =
      let (begun, more) = and_parts (nat_le t.first d) (nat_le d t.last && is_set (slice_get t.days (weekday_of d))) is in
      let (unfinished, set) = and_parts (nat_le d t.last) (is_set (slice_get t.days (weekday_of d))) more in
      record {
        begun = leb-true t.first d begun;
        unfinished = leb-true d t.last unfinished;
        on_weekday = set-is (slice_get t.days (weekday_of d)) set;
      }

  tested-applies : (t : Terms B) → Applies t d → applies_on t ≡ true
  tested-applies t a =
      let begun = a.begun in
      let unfinished = a.unfinished in
      and_from (nat_le t.first d) (nat_le d t.last && is_set (slice_get t.days (weekday_of d))) (grind (arith, nat_tests))
      (and_from (nat_le d t.last) (is_set (slice_get t.days (weekday_of d))) (grind (arith, nat_tests)) (ap is_set a.on_weekday))

module _ {K B : Type 0} (d : ℕ) where
  abbrev pub some_on : List (K × Terms B) → Bool
  some_on [] = false
  some_on (e ∷ entries) = applies_on d e.1 || some_on entries

  found : (entries : List (K × Terms B)) → some_on entries ≡ true → (e : K × Terms B) × Contains entries e × Applies e.1 d
  found [] is = cc
  found (e ∷ entries) is = ⊎_elim
      (λ own. (e, Contains-first e entries, applies-tested d e.1 own))
      (λ later. let (other, listed, on) = found entries later in (other, Contains-rest e entries other listed, on))
      (or_cases (applies_on d e.1) (some_on entries) is)

  there : (entries : List (K × Terms B)) (e : K × Terms B) → Contains entries e → Applies e.1 d → some_on entries ≡ true
  there [] e has on = absurd (Contains-none e has)
  there (first ∷ entries) e has on = ⊎_elim
      (λ is. or_left (applies_on d first.1) (some_on entries)
      (tested-applies d first.1 (subst (λ (v : K × Terms B). Applies v.1 d) (sym is) on)))
      (λ later. or_right (applies_on d first.1) (some_on entries) (there entries e later on))
      (Contains-cases first entries e has)

-- ---- alike

-- A record of key k is one of this key, with this letter and this body.
pub record IsAlike {K B : Type 0} (key : K) (body : Option B) (letter : Stp) (k : K) (r : Terms B) : Type 0 where
  of : key ≡ k
  lettered : r.letter ≡ letter
  bodied : r.body ≡ body

module _ {K B : Type 0} (key : K) (body : Option B) where
  -- each of the entries is one
  abbrev pub AreAlike : Stp → List (K × Terms B) → Type 0
  AreAlike letter entries = (k : K) (r : Terms B) → of_key entries k r → IsAlike key body letter k r

  pub none-alike : (letter : Stp) → AreAlike letter []
  none-alike letter k r has = absurd (Contains-none (k, r) has)

  pub more-alike : (letter : Stp) (t : Terms B) (entries : List (K × Terms B)) → t.letter ≡ letter → t.body ≡ body
      → AreAlike letter entries → AreAlike letter ((key, t) ∷ entries)
  more-alike letter t entries lettered bodied others k r has =
      ⊎_elim (λ is. first k r is) (others k r) (Contains-cases (key, t) entries (k, r) has)
    where
      first : (k : K) (r : Terms B) → ◌≡◌ {A = K × Terms B} (key, t) (k, r) → IsAlike key body letter k r
      first k r is =
          let same : t ≡ r = ap (λ (v : K × Terms B). v.1) is in
          record {
            of = ap (λ (v : K × Terms B). v.0) is;
            lettered = ap (λ (v : Terms B). v.letter) (sym same) ∙ lettered;
            bodied = ap (λ (v : Terms B). v.body) (sym same) ∙ bodied;
          }

  module _ (letter : Stp) (entries : List (K × Terms B)) (alike : AreAlike letter entries) where
    alike-wins : (k : K) (r : Terms B) (d : ℕ) → of_key entries k r → Applies r d → Wins (of_key entries k) d r
    alike-wins k r d has on = record {
      listed = has;
      applies = on;
      least = λ s has_s on_s.
          let same : precedence r ≡ precedence s = ap column_of ((alike k r has).lettered ∙ sym (alike k s has_s).lettered) in
          omega (arith, same);
    }

    pub alike-clear : (first last : ℕ) → AreClear entries first last
    alike-clear first last = record {
      key = λ k. record {
        clear = λ d from upto. record {
          agree = λ r s r_wins s_wins. (alike k r r_wins.listed).bodied ∙ sym (alike k s s_wins.listed).bodied;
        };
      };
    }

  module _ (letter other_letter : Stp) (xs ys : List (K × Terms B)) (alike_xs : AreAlike letter xs) (alike_ys : AreAlike other_letter ys)
      (d : ℕ) (same : some_on d xs ≡ some_on d ys) where
    -- where one of the one list applies, one of the other does
    other-applies : (k : K) (r : Terms B) → of_key xs k r → Applies r d → (s : Terms B) × of_key ys k s × Applies s d
    other-applies k r has on =
        let (e, listed, applies) = found d ys (sym same ∙ there d xs (k, r) has on) in
        (e.1, subst (λ j. of_key ys j e.1) (sym (alike_ys e.0 e.1 listed).of ∙ (alike_xs k r has).of) listed, applies)

  runs-also : (letter other_letter : Stp) (xs ys : List (K × Terms B)) (alike_xs : AreAlike letter xs) (alike_ys : AreAlike other_letter ys)
      → letter ≢ C → (d : ℕ) → some_on d xs ≡ some_on d ys → (k : K) (o : Option B) → Runs (of_key xs k) d o → Runs (of_key ys k) d o
  runs-also letter other_letter xs ys alike_xs alike_ys uncancelled d same k None nothing = record {
    cancelled = λ r wins.
        let (s, listed, on) = other-applies other_letter letter ys xs alike_ys alike_xs d (sym same) k r wins.listed wins.applies in
        let never = nothing.cancelled s (alike-wins letter xs alike_xs k s d listed on) in
        absurd (uncancelled (sym (alike_xs k s listed).lettered ∙ never));
  }
  runs-also letter other_letter xs ys alike_xs alike_ys uncancelled d same k (Some b) runs =
      let r = runs.winner in
      let (s, listed, on) = other-applies letter other_letter xs ys alike_xs alike_ys d same k r runs.wins.listed runs.wins.applies in
      record {
        winner = s;
        wins = alike-wins other_letter ys alike_ys k s d listed on;
        body = (alike_ys k s listed).bodied ∙ sym (alike_xs k r runs.wins.listed).bodied ∙ runs.body;
      }

  pub alike-same : (letter other_letter : Stp) (xs ys : List (K × Terms B)) → AreAlike letter xs → AreAlike other_letter ys → letter ≢ C
      → other_letter ≢ C → (first last : ℕ) → ((d : ℕ) → first ≤ d → d ≤ last → some_on d xs ≡ some_on d ys)
      → EntriesSayTheSame xs ys first last
  alike-same letter other_letter xs ys alike_xs alike_ys uncancelled other_uncancelled first last same = record {
    same = λ k d o from upto. (
      runs-also letter other_letter xs ys alike_xs alike_ys uncancelled d (same d from upto) k o,
      runs-also other_letter letter ys xs alike_ys alike_xs other_uncancelled d (sym (same d from upto)) k o,
    );
  }
