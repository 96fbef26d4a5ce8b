-- Canonical records make a canonical extract that says what the extract says.
use Rattle.cif_canon.proofs.Names.{All, AreCanonicalRecords, AreDistinct, EntriesSayTheSame, ExtractParts, Form, IsCanonicalExtract, List}
use Rattle.cif_canon.proofs.Names.{Run, SameMeaning, Tiploc, association_entries, canonical-dated, header_window, key_cmp, nat_cmp, refl}
use Rattle.cif_canon.proofs.Names.{schedule_entries, slice_cmp, subst, sym}
use Rattle.cif_canon.proofs.MadeExtract.{IsDated, associations_of, entries-of_associations, entries-of_schedules, schedules_of}

-- the records don't end before they begin
pub dated-associations : (form : Form) (x : ExtractParts) (runs : List Run)
    (a : AreCanonicalRecords key_cmp form (header_window x.header) (association_entries x.associations) runs) → All IsDated a.records
dated-associations form x runs a = canonical-dated key_cmp form (header_window x.header) a.records a.canonical

pub dated-schedules : (form : Form) (x : ExtractParts) (runs : List Run)
    (s : AreCanonicalRecords (slice_cmp nat_cmp) form (header_window x.header) (schedule_entries x.schedules) runs) → All IsDated s.records
dated-schedules form x runs s = canonical-dated (slice_cmp nat_cmp) form (header_window x.header) s.records s.canonical

module _ (form : Form) (x : ExtractParts) (tiplocs : List Tiploc) (distinct : AreDistinct x.tiplocs tiplocs) (associations : List Run)
    (a : AreCanonicalRecords key_cmp form (header_window x.header) (association_entries x.associations) associations) (schedules : List Run)
    (s : AreCanonicalRecords (slice_cmp nat_cmp) form (header_window x.header) (schedule_entries x.schedules) schedules) where
  -- the canonical extract
  abbrev pub canonical_of : ExtractParts
  canonical_of = record {
    header = x.header;
    tiplocs = tiplocs;
    associations = associations_of a.records (dated-associations form x associations a);
    schedules = schedules_of s.records (dated-schedules form x schedules s);
  }

  pub is-canonical : IsCanonicalExtract form canonical_of
  is-canonical = record {
    tiplocs = distinct.rising;
    associations = record {
      records = a.records;
      are = entries-of_associations a.records (dated-associations form x associations a);
      canonical = a.canonical;
    };
    schedules = record {
      records = s.records;
      are = entries-of_schedules s.records (dated-schedules form x schedules s);
      canonical = s.canonical;
    };
  }

  pub same-meaning : SameMeaning x canonical_of
  same-meaning = record {
    header = refl;
    agree = record {
      tiplocs = distinct.members;
      associations = subst (λ es. EntriesSayTheSame (association_entries x.associations) es x.header.first x.header.last)
          (sym (entries-of_associations a.records (dated-associations form x associations a))) a.same_meaning;
      schedules = subst (λ es. EntriesSayTheSame (schedule_entries x.schedules) es x.header.first x.header.last)
          (sym (entries-of_schedules s.records (dated-schedules form x schedules s))) s.same_meaning;
    };
  }
