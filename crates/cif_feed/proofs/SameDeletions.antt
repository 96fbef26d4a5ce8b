-- Two deletions that agree in the columns that are read are the same.
use Rattle.cif_feed.proofs.Names.{Action, AllStandIn, AssocKey, AssociationKey, List, None, PublishedAssociation, PublishedSchedule, Row}
use Rattle.cif_feed.proofs.Names.{ScheduleKey, StandsIn, Stp, Transaction, [], action_rows, ap, arith, basic_front_by, codes, columns, date}
use Rattle.cif_feed.proofs.Names.{deleted_association_rows, deleted_basic_rows, drop, drop-drop, drop-take, indicator, one_date_value}
use Rattle.cif_feed.proofs.Names.{one_exactly, one_indicator, published_association_rows, published_basic_rows, spare, subst, sym, take}
use Rattle.cif_feed.proofs.Names.{take-take, text, transaction_letter, transaction_of, ℕ, ◌+◌, ◌∙◌, ◌∷◌, ◌≡◌}
use Rattle.cif_records.proofs.Associations as associations
use Rattle.cif_records.proofs.Basics as basics
use Rattle.cif_feed.specs.declared.changes.Action.TheVariants.{Deleted, New, Revised}
use Rattle.cif_feed.specs.declared.mark.Transaction.TheVariants as transaction

-- columns among others
part : (k a n m : ℕ) (l : List ℕ) → take n (drop a (take (a + (n + m)) (drop k l))) ≡ take n (drop (k + a) l)
part k a n m l =
    ap (take n) (drop-take a (n + m) (drop k l)) ∙ ap (λ (xs : List ℕ). take n (take (n + m) xs)) (drop-drop a k l)
    ∙ take-take n (n + m) (drop (k + a) l) (omega arith)

module _ (l q : List ℕ) where
  -- they agree where the others do
  agree : (k a n m : ℕ) → take (a + (n + m)) (drop k l) ≡ take (a + (n + m)) (drop k q) → take n (drop (k + a) l) ≡ take n (drop (k + a) q)
  agree k a n m e = sym (part k a n m l) ∙ ap (λ (xs : List ℕ). take n (drop a xs)) e ∙ part k a n m q

  -- A deletion and what another line does that agrees in column 3 are the same, where their keys are. `puts` are the columns of a record
  -- that is put, by its transaction, and `deletes` those of the deletion of a key.
  module _ {K R : Type 0} (puts : Transaction → R → List Row) (deletes : K → List Row)
      (put : (t : Transaction) (r : R) → AllStandIn q (puts t r) → columns 3 3 q ≡ transaction_letter t ∷ [])
      (deleted : (k : K) → AllStandIn l (deletes k) → columns 3 3 l ≡ codes "D") (same : columns 3 3 l ≡ columns 3 3 q)
      (one_key : (j k : K) → AllStandIn l (deletes j) → AllStandIn q (deletes k) → j ≡ k) where
    no_put : (letter : ℕ) (k : K) → AllStandIn l (deletes k) → columns 3 3 q ≡ letter ∷ [] → letter ≡ 68
    no_put letter k s t = let both : letter ∷ [] ≡ 68 ∷ [] = sym t ∙ sym same ∙ deleted k s in cc

    one_deletion : (a b : Action K R) → AllStandIn l (action_rows puts deletes a) → AllStandIn q (action_rows puts deletes b)
        → transaction_of a ≡ transaction.Deleted → a ≡ b
    one_deletion (New r) b s t is = cc
    one_deletion (Revised r) b s t is = cc
    one_deletion (Deleted j) (New r) s t is = absurd (omega (arith, no_put 78 j s (put transaction.New r t)))
    one_deletion (Deleted j) (Revised r) s t is = absurd (omega (arith, no_put 82 j s (put transaction.Revised r t)))
    one_deletion (Deleted j) (Deleted k) s t is = ap Deleted (one_key j k s t)

  module _ (front : columns 3 21 l ≡ columns 3 21 q) (middle : columns 38 46 l ≡ columns 38 46 q) (back : columns 80 80 l ≡ columns 80 80 q)
    where
      abbrev rows : AssociationKey → List Row
      rows k = deleted_association_rows k.0 k.1 k.2

      one_key : (j k : AssociationKey) → AllStandIn l (rows j) → AllStandIn q (rows k) → j ≡ k
      one_key j k s t =
          let a = associations.parts_by l (codes "D") j.0 j.1 spare spare j.2 None s in
          let b = associations.parts_by q (codes "D") k.0 k.1 spare spare k.2 None t in
          let key = associations.one_key q j.0 k.0 (record {
            base = sym (agree 2 1 6 12 front) ∙ a.key.base;
            associated = sym (agree 2 7 6 6 front) ∙ a.key.associated;
            location = subst (λ c. StandsIn c (text j.0.location)) (agree 37 0 7 2 middle) a.key.location;
            base_suffix = subst (λ c. StandsIn c (text j.0.base_suffix)) (agree 37 7 1 1 middle) a.key.base_suffix;
            associated_suffix = subst (λ c. StandsIn c (text j.0.associated_suffix)) (agree 37 8 1 0 middle) a.key.associated_suffix;
          }) b.key in
          let first = one_date_value (columns 16 21 q) j.1 k.1
          (subst (λ c. StandsIn c (date j.1)) (agree 2 13 6 0 front) a.first) b.first in
          let stp = one_indicator (columns 80 80 q) j.2 k.2 (subst (λ c. StandsIn c (indicator j.2)) back a.letter) b.letter in
          ap (λ (x : AssocKey). let v : AssociationKey = (x, j.1, j.2) in v) key
          ∙ ap (λ (x : ℕ). let v : AssociationKey = (k.0, x, j.2) in v) first
          ∙ ap (λ (x : Stp). let v : AssociationKey = (k.0, k.1, x) in v) stp

      pub one_association_deletion : (a b : Action AssociationKey PublishedAssociation)
          → AllStandIn l (action_rows published_association_rows rows a) → AllStandIn q (action_rows published_association_rows rows b)
          → transaction_of a ≡ transaction.Deleted → a ≡ b
      one_association_deletion = one_deletion published_association_rows rows (λ t r s. s.1.0) (λ k s. s.1.0) (agree 2 0 1 18 front) one_key

  module _ (front : columns 3 15 l ≡ columns 3 15 q) (back : columns 80 80 l ≡ columns 80 80 q) where
    abbrev basic_rows : ScheduleKey → List Row
    basic_rows k = deleted_basic_rows k.0 k.1 k.2

    one_basic_key : (j k : ScheduleKey) → AllStandIn l (basic_rows j) → AllStandIn q (basic_rows k) → j ≡ k
    one_basic_key j k s t =
        let a = basics.parts_by l (basic_front_by (codes "D") j.0 j.1 spare spare spare) None j.2 s in
        let b = basics.parts_by q (basic_front_by (codes "D") k.0 k.1 spare spare spare) None k.2 t in
        let uid = one_exactly (columns 4 9 q) j.0 k.0 (sym (agree 2 1 6 6 front) ∙ a.front.1.1.0) b.front.1.1.0 in
        let first = one_date_value (columns 10 15 q) j.1 k.1 (subst (λ c. StandsIn c (date j.1)) (agree 2 7 6 0 front) a.front.1.1.1.0)
        b.front.1.1.1.0 in
        let stp = one_indicator (columns 80 80 q) j.2 k.2 (subst (λ c. StandsIn c (indicator j.2)) back a.back.1.0) b.back.1.0 in
        ap (λ (x : List ℕ). let v : ScheduleKey = (x, j.1, j.2) in v) uid
        ∙ ap (λ (x : ℕ). let v : ScheduleKey = (k.0, x, j.2) in v) first
        ∙ ap (λ (x : Stp). let v : ScheduleKey = (k.0, k.1, x) in v) stp

    pub one_schedule_deletion : (a b : Action ScheduleKey PublishedSchedule)
        → AllStandIn l (action_rows published_basic_rows basic_rows a) → AllStandIn q (action_rows published_basic_rows basic_rows b)
        → transaction_of a ≡ transaction.Deleted → a ≡ b
    one_schedule_deletion =
        one_deletion published_basic_rows basic_rows (λ t r s. s.1.0) (λ k s. s.1.0) (agree 2 0 1 12 front) one_basic_key
