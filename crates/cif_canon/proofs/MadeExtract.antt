-- The extract of canonical records.
use Rattle.cif_canon.proofs.Names.{All, All-head, All-tail, AssocBody, AssocKey, BodyLines, List, P, Permanent, Schedule, Some, [], ap}
use Rattle.cif_canon.proofs.Names.{association_entries, permanent_entries, refl, schedule_entries, terms_of, ℕ, ◌∷◌, ◌≡◌, ◌≤◌}
use Rattle.cif_records.specs.declared.association.Association.{Association}

-- a record that doesn't end before it begins
abbrev pub IsDated : {K B : Type 0} → K × Permanent B → Type 0
IsDated e = e.1.first ≤ e.1.last

-- a permanent association
abbrev pub association_of : (e : AssocKey × Permanent AssocBody) → IsDated e → Association
association_of (k, r) h = record {
  key = k;
  first = r.first;
  last = r.last;
  days = r.days;
  letter = P;
  body = Some r.body;
  in_order = h;
  bodied = refl;
}

abbrev pub associations_of : (es : List (AssocKey × Permanent AssocBody)) → All IsDated es → List Association
associations_of [] h = []
associations_of (e ∷ es) h = association_of e (All-head IsDated e es h) ∷ associations_of es (All-tail IsDated e es h)

pub entries-of_associations : (es : List (AssocKey × Permanent AssocBody)) (h : All IsDated es)
    → association_entries (associations_of es h) ≡ permanent_entries es
entries-of_associations [] h = refl
entries-of_associations (e ∷ es) h = ap (λ rest. (e.0, terms_of e.1) ∷ rest) (entries-of_associations es (All-tail IsDated e es h))

-- a permanent schedule
abbrev pub schedule_of : (e : List ℕ × Permanent BodyLines) → IsDated e → Schedule
schedule_of (uid, r) h = record {
  uid = uid;
  first = r.first;
  last = r.last;
  days = r.days;
  letter = P;
  body = Some r.body;
  in_order = h;
  bodied = refl;
}

abbrev pub schedules_of : (es : List (List ℕ × Permanent BodyLines)) → All IsDated es → List Schedule
schedules_of [] h = []
schedules_of (e ∷ es) h = schedule_of e (All-head IsDated e es h) ∷ schedules_of es (All-tail IsDated e es h)

pub entries-of_schedules : (es : List (List ℕ × Permanent BodyLines)) (h : All IsDated es)
    → schedule_entries (schedules_of es h) ≡ permanent_entries es
entries-of_schedules [] h = refl
entries-of_schedules (e ∷ es) h = ap (λ rest. (e.0, terms_of e.1) ∷ rest) (entries-of_schedules es (All-tail IsDated e es h))
