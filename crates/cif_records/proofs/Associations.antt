-- A line spells at most one association, and there is no reason to refuse a line that spells one.
use Rattle.cif_records.proofs.Names.{AllStandIn, AssocBody, AssocKey, Association, Bool, FieldValue, List, None, Option, Some}
use Rattle.cif_records.proofs.Names.{SpellsAssociation, SpellsBody, SpellsKey, StandsIn, Stp, ap, association_refusal, association_rows_by}
use Rattle.cif_records.proofs.Names.{codes, columns, date, days_of-stands, has_body, indicator, is_some, one_date_value, one_indicator}
use Rattle.cif_records.proofs.Names.{one_text_value, one_weekdays, props, refl, stp_in-letter, sym, weekdays, ℕ, ◌∙◌, ◌≡◌, ◌≤◌}
use mathlib.Core.HLevel.{Σ_prop_path}
use Rattle.cif_records.proofs.Judging.{dates_fine}

pub same_body : (line : List ℕ) (a b : Option AssocBody) → is_some a ≡ is_some b → SpellsBody line a → SpellsBody line b → a ≡ b
same_body line None None e p q = refl
same_body line None (Some y) e p q = cc
same_body line (Some x) None e p q = cc
same_body line (Some x) (Some y) e p q =
    let a = one_text_value _ x.category y.category p.category q.category in
    let b = one_text_value _ x.date_indicator y.date_indicator p.date_indicator q.date_indicator in
    let c = one_text_value _ x.diagram y.diagram p.diagram q.diagram in
    let d = one_text_value _ x.kind y.kind p.kind q.kind in
    let parts : ◌≡◌ {A = List ℕ × List ℕ × List ℕ × List ℕ}
    (x.category, x.date_indicator, x.diagram, x.kind)
    (y.category, y.date_indicator, y.diagram, y.kind) = cc in
    ap (λ v. Some (record { category = v.0; date_indicator = v.1; diagram = v.2; kind = v.3 })) parts

-- one key stands in a line
pub one_key : (line : List ℕ) (x y : AssocKey) → SpellsKey line x → SpellsKey line y → x ≡ y
one_key line x y p q =
    let a : x.base ≡ y.base = sym p.base ∙ q.base in
    let b : x.associated ≡ y.associated = sym p.associated ∙ q.associated in
    let c = one_text_value _ x.location y.location p.location q.location in
    let d = one_text_value _ x.base_suffix y.base_suffix p.base_suffix q.base_suffix in
    let e = one_text_value _ x.associated_suffix y.associated_suffix p.associated_suffix q.associated_suffix in
    let parts : ◌≡◌ {A = List ℕ × List ℕ × List ℕ × List ℕ × List ℕ}
    (x.base, x.associated, x.location, x.base_suffix, x.associated_suffix)
    (y.base, y.associated, y.location, y.base_suffix, y.associated_suffix) = cc in
    ap (λ v. record { base = v.0; associated = v.1; location = v.2; base_suffix = v.3; associated_suffix = v.4 }) parts

-- what the type keeps of its fields
abbrev Facts : AssocKey × ℕ × ℕ × List Bool × Stp × Option AssocBody → Type 0
Facts v = (v.1 ≤ v.2) × (is_some v.5 ≡ has_body v.4)

pub same_association : (r q : Association) → r.key ≡ q.key → r.first ≡ q.first → r.last ≡ q.last → r.days ≡ q.days → r.letter ≡ q.letter
    → r.body ≡ q.body → r ≡ q
same_association r q a b c d e f =
    let parts : ◌≡◌ {A = (v : AssocKey × ℕ × ℕ × List Bool × Stp × Option AssocBody) × Facts v}
    ((r.key, r.first, r.last, r.days, r.letter, r.body), (r.in_order, r.bodied))
    ((q.key, q.first, q.last, q.days, q.letter, q.body), (q.in_order, q.bodied)) = Σ_prop_path (λ v. hlevel props) (cc) in
    ap (λ v. record {
      key = v.0.0;
      first = v.0.1;
      last = v.0.2;
      days = v.0.3;
      letter = v.0.4;
      body = v.0.5;
      in_order = v.1.0;
      bodied = v.1.1;
    }) parts

-- what the table of an association says of a line, by the names of the fields
pub record Parts (line t : List ℕ) (k : AssocKey) (f : ℕ) (l d : FieldValue) (stp : Stp) (b : Option AssocBody) : Type 0 where
  pub identity : columns 1 2 line ≡ codes "AA"
  pub transaction : columns 3 3 line ≡ t
  pub key : SpellsKey line k
  pub first : StandsIn (columns 16 21 line) (date f)
  pub last : StandsIn (columns 22 27 line) l
  pub days : StandsIn (columns 28 34 line) d
  pub letter : StandsIn (columns 80 80 line) (indicator stp)
  pub body : SpellsBody line b

pub parts_by : (line transaction : List ℕ) (key : AssocKey) (first : ℕ) (last days : FieldValue) (letter : Stp) (body : Option AssocBody)
    → AllStandIn line (association_rows_by transaction key first last days letter body)
    → Parts line transaction key first last days letter body
parts_by line transaction key first last days letter body p = record {
  identity = p.0;
  transaction = p.1.0;
  key = record {
    base = p.1.1.0;
    associated = p.1.1.1.0;
    location = p.1.1.1.1.1.1.1.1.1.0;
    base_suffix = p.1.1.1.1.1.1.1.1.1.1.0;
    associated_suffix = p.1.1.1.1.1.1.1.1.1.1.1.0;
  };
  first = p.1.1.1.1.0;
  last = p.1.1.1.1.1.0;
  days = p.1.1.1.1.1.1.0;
  letter = p.1.1.1.1.1.1.1.1.1.1.1.1.1.1.1.0;
  body = record {
    category = p.1.1.1.1.1.1.1.0;
    date_indicator = p.1.1.1.1.1.1.1.1.0;
    diagram = p.1.1.1.1.1.1.1.1.1.1.1.1.0;
    kind = p.1.1.1.1.1.1.1.1.1.1.1.1.1.0;
  };
}

abbrev OwnParts : List ℕ → Association → Type 0
OwnParts line r = Parts line (codes "N") r.key r.first (date r.last) (weekdays r.days) r.letter r.body

parts_of : (line : List ℕ) (r : Association) → SpellsAssociation line r → OwnParts line r
parts_of line r p = parts_by line (codes "N") r.key r.first (date r.last) (weekdays r.days) r.letter r.body p

-- two associations with these parts are one, if their last dates and their days are
pub one_association_by : (line transaction : List ℕ) (r q : Association) (last other days mask : FieldValue)
    → Parts line transaction r.key r.first last days r.letter r.body → Parts line transaction q.key q.first other mask q.letter q.body
    → r.last ≡ q.last → r.days ≡ q.days → r ≡ q
one_association_by line transaction r q last other days mask a b same_last same_days =
    let same_letter = one_indicator _ r.letter q.letter a.letter b.letter in
    let bodied : is_some r.body ≡ is_some q.body = r.bodied ∙ ap has_body same_letter ∙ sym q.bodied in
    same_association r q (one_key line r.key q.key a.key b.key) (one_date_value _ _ _ a.first b.first) same_last same_days same_letter
    (same_body line r.body q.body bodied a.body b.body)

-- two associations that a line spells are one
pub one_association : (line : List ℕ) (r q : Association) → SpellsAssociation line r → SpellsAssociation line q → r ≡ q
one_association line r q m n =
    let a = parts_of line r m in
    let b = parts_of line q n in
    one_association_by line (codes "N") r q (date r.last) (date q.last) (weekdays r.days) (weekdays q.days) a b
    (one_date_value _ _ _ a.last b.last) (one_weekdays _ _ _ a.days b.days)

-- there is no reason to refuse a line that spells an association
pub no_refusal : (line : List ℕ) (r : Association) → SpellsAssociation line r → association_refusal line ≡ None
unfolding association_refusal
no_refusal line r m =
    let p = parts_of line r m in
    rw (
      p.identity,
      p.transaction,
      dates_fine _ _ _ _ p.first p.last r.in_order,
      days_of-stands _ _ p.days,
      p.letter,
      stp_in-letter r.letter,
    )
