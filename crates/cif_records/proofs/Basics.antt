-- A line spells at most one basic schedule, and there is no reason to refuse a line that spells one.
use Rattle.cif_records.proofs.Names.{AllStandIn, Basic, Bool, Detail, FieldValue, List, None, Option, Row, Some, SpellsBasic, Stp, ap}
use Rattle.cif_records.proofs.Names.{basic_back, basic_front, basic_front_by, basic_refusal, codes, date, days_of-stands, detail_in}
use Rattle.cif_records.proofs.Names.{detail_rows, exactly, false, has_body, is_some, one_date_value, one_exactly, one_indicator}
use Rattle.cif_records.proofs.Names.{one_weekdays, props, refl, stands-back, stands-front, stp_in-letter, sym, true, weekdays, ℕ, ◌++◌, ◌∙◌}
use Rattle.cif_records.proofs.{Details.detail_stands, Details.one_detail, Judging.dates_fine, Names.◌≡◌, Names.◌≤◌}
use mathlib.Core.HLevel.{Σ_prop_path}

same_detail : (line : List ℕ) (a b : Option Detail) → is_some a ≡ is_some b → AllStandIn line (detail_rows a) →
    AllStandIn line (detail_rows b) → a ≡ b
same_detail line None None e p q = refl
same_detail line None (Some y) e p q = cc
same_detail line (Some x) None e p q = cc
same_detail line (Some x) (Some y) e p q = ap Some (one_detail line x y p q)

-- what the type keeps of its fields
abbrev Facts : List ℕ × ℕ × ℕ × List Bool × Stp × Option Detail → Type 0
Facts v = (v.1 ≤ v.2) × (is_some v.5 ≡ has_body v.4)

pub same_basic : (r q : Basic) → r.uid ≡ q.uid → r.first ≡ q.first → r.last ≡ q.last → r.days ≡ q.days → r.letter ≡ q.letter →
    r.detail ≡ q.detail → r ≡ q
same_basic r q a b c d e f =
    let parts : ◌≡◌ {A = (v : List ℕ × ℕ × ℕ × List Bool × Stp × Option Detail) × Facts v}
    ((r.uid, r.first, r.last, r.days, r.letter, r.detail), (r.in_order, r.bodied))
    ((q.uid, q.first, q.last, q.days, q.letter, q.detail), (q.in_order, q.bodied)) = Σ_prop_path (λ v. hlevel props) (cc) in
    ap (λ v. record {
      uid = v.0.0;
      first = v.0.1;
      last = v.0.2;
      days = v.0.3;
      letter = v.0.4;
      detail = v.0.5;
      in_order = v.1.0;
      bodied = v.1.1;
    }) parts

-- the three parts of a line that spells a schedule
pub record Parts (line : List ℕ) (rows : List Row) (d : Option Detail) (stp : Stp) : Type 0 where
  pub front : AllStandIn line rows
  pub detail : AllStandIn line (detail_rows d)
  pub back : AllStandIn line (basic_back stp)

pub parts_by : (line : List ℕ) (rows : List Row) (d : Option Detail) (stp : Stp)
    → AllStandIn line (rows ++ (detail_rows d ++ basic_back stp)) → Parts line rows d stp
parts_by line rows d stp p =
    let behind = stands-back line rows (detail_rows d ++ basic_back stp) p in
    record {
      front = stands-front line rows (detail_rows d ++ basic_back stp) p;
      detail = stands-front line (detail_rows d) (basic_back stp) behind;
      back = stands-back line (detail_rows d) (basic_back stp) behind;
    }

pub parts_of : (line : List ℕ) (r : Basic) → SpellsBasic line r → Parts line (basic_front r.uid r.first r.last r.days) r.detail r.letter
parts_of line r p = parts_by line (basic_front r.uid r.first r.last r.days) r.detail r.letter p

-- two schedules with these parts are one, if their last dates and their days are
pub one_basic_by : (line t : List ℕ) (r q : Basic) (last other days mask holiday : FieldValue)
    → Parts line (basic_front_by t r.uid r.first last days holiday) r.detail r.letter
    → Parts line (basic_front_by t q.uid q.first other mask holiday) q.detail q.letter
    → r.last ≡ q.last → r.days ≡ q.days → r ≡ q
one_basic_by line t r q last other days mask holiday a b same_last same_days =
    let same_letter = one_indicator _ r.letter q.letter a.back.1.0 b.back.1.0 in
    let bodied : is_some r.detail ≡ is_some q.detail = r.bodied ∙ ap has_body same_letter ∙ sym q.bodied in
    same_basic r q (one_exactly _ _ _ a.front.1.1.0 b.front.1.1.0) (one_date_value _ _ _ a.front.1.1.1.0 b.front.1.1.1.0) same_last
    same_days same_letter (same_detail line r.detail q.detail bodied a.detail b.detail)

pub one_basic : (line : List ℕ) (r q : Basic) → SpellsBasic line r → SpellsBasic line q → r ≡ q
one_basic line r q m n =
    let a = parts_of line r m in
    let b = parts_of line q n in
    one_basic_by line (codes "N") r q (date r.last) (date q.last) (weekdays r.days) (weekdays q.days) (exactly (codes " ")) a b
    (one_date_value _ _ _ a.front.1.1.1.1.0 b.front.1.1.1.1.0) (one_weekdays _ _ _ a.front.1.1.1.1.1.0 b.front.1.1.1.1.1.0)

pub no_refusal : (line : List ℕ) (r : Basic) → SpellsBasic line r → basic_refusal line ≡ None
unfolding basic_refusal
no_refusal line r m =
    let p = parts_of line r m in
    rw (
      p.front.0,
      p.front.1.0,
      dates_fine _ _ _ _ p.front.1.1.1.0 p.front.1.1.1.1.0 r.in_order,
      days_of-stands _ _ p.front.1.1.1.1.1.0,
      p.front.1.1.1.1.1.1.0,
      p.back.1.0,
      stp_in-letter r.letter,
    )

-- the detail of a schedule with a body is the one that stands in its line, and another schedule has none
pub detail_read : (line : List ℕ) (r : Basic) → AllStandIn line (detail_rows r.detail) → has_body r.letter ≡ true
    → r.detail ≡ Some (detail_in line)
detail_read line r stands has = same_detail line r.detail (Some (detail_in line)) (r.bodied ∙ has) stands (detail_stands line)

pub detail_there : (line : List ℕ) (r : Basic) → SpellsBasic line r → has_body r.letter ≡ true → r.detail ≡ Some (detail_in line)
detail_there line r m has = detail_read line r (parts_of line r m).detail has

pub no_detail_there : (r : Basic) → has_body r.letter ≡ false → r.detail ≡ None
no_detail_there r lacks = none r.detail (r.bodied ∙ lacks)
  where
    none : (d : Option Detail) → is_some d ≡ false → d ≡ None
    none None e = refl
    none (Some d) e = cc
