-- The runs of an extract's canonical records, and its locations, make its canonical form.
use Rattle.cif_canon.proofs.Names.{All, AllZip-long, AreCanonicalRecords, AreClear, AreDistinct, BytesSpell, Counts, ExtractParts, Fault}
use Rattle.cif_canon.proofs.Names.{FitsColumns, Form, HasRecord, Header, IsCanonFault, IsCanonOf, IsCanonicalOf, IsFirstClashIn}
use Rattle.cif_canon.proofs.Names.{IsRecordsFault, IsRunOf, List, Run, Tiploc, Window, ap₂, association_entries, canon_lines, canon_text}
use Rattle.cif_canon.proofs.Names.{extract_text, header_window, key_cmp, length, lines_of, nat_cmp, schedule_entries, slice_cmp, subst, sym}
use Rattle.cif_canon.proofs.Names.{text-spells, window_from, ℕ, ◌∙◌, ◌≡◌}
use Rattle.cif_extract.specs.declared.fault.Clash.TheVariants as named
use Rattle.cif_extract.specs.declared.fault.Fault.TheVariants as fault
use Rattle.cif_canon.{proofs.CanonLines.written-lines, proofs.MadeFits.made-fits, specs.Counts.counts_of}
use Rattle.cif_canon.proofs.CanonTexts.{have-records, number-of_associations, number-of_schedules, written-text}
use Rattle.cif_canon.proofs.KeptExtract.{canonical_of, dated-associations, dated-schedules, is-canonical, same-meaning}
use Rattle.cif_canon.proofs.NormalForms.{its-own, normal-unique, reached}

-- what is said of a slice's entries, in the window of these dates, is said of those of a list, in the header's window
pub of_slice : {X : Type 0} (says : Window → List X → Type 0) (h : Header) (first last : ℕ) (xs ys : List X) →
    first ≡ h.first → last ≡ h.last → xs ≡ ys → says (window_from first last) xs → says (header_window h) ys
of_slice says h first last xs ys f l is a =
    subst (λ zs. says (header_window h) zs) is
    (subst (λ n. says (window_from h.first n) xs) l (subst (λ n. says (window_from n last) xs) f a))

-- why there are no canonical records of associations, or of schedules where there are some of associations
pub associations-fault : (x : ExtractParts) (why : Fault) →
    IsRecordsFault key_cmp named.Association (association_entries x.associations) (header_window x.header) why → IsCanonFault x why
associations-fault x (fault.Ambiguous clash) h = subst (IsFirstClashIn x) (sym h.is) h.first
associations-fault x fault.Memory h = tt
associations-fault x _ h = absurd h

pub schedules-fault : (x : ExtractParts) → AreClear (association_entries x.associations) x.header.first x.header.last → (why : Fault) →
    IsRecordsFault (slice_cmp nat_cmp) named.Train (schedule_entries x.schedules) (header_window x.header) why → IsCanonFault x why
schedules-fault x clear (fault.Ambiguous clash) h = subst (IsFirstClashIn x) (sym h.is) (clear, h.first)
schedules-fault x clear fault.Memory h = tt
schedules-fault x clear _ h = absurd h

module _ (form : Form) (x : ExtractParts) (tiplocs : List Tiploc) (distinct : AreDistinct x.tiplocs tiplocs) (associations : List Run)
    (a : AreCanonicalRecords key_cmp form (header_window x.header) (association_entries x.associations) associations) (schedules : List Run)
    (s : AreCanonicalRecords (slice_cmp nat_cmp) form (header_window x.header) (schedule_entries x.schedules) schedules) where
  -- each run has a record
  pub associations-have : All (HasRecord (association_entries x.associations)) associations
  associations-have =
      have-records (association_entries x.associations) associations a.records a.runs_of (dated-associations form x associations a)

  pub schedules-have : All (HasRecord (schedule_entries x.schedules)) schedules
  schedules-have = have-records (schedule_entries x.schedules) schedules s.records s.runs_of (dated-schedules form x schedules s)

  -- what is written, and how many records it has
  text : List ℕ
  text = canon_text x tiplocs associations schedules

  abbrev counts : Counts
  counts = record { tiplocs = length tiplocs; associations = length associations; schedules = length schedules }

  made : ExtractParts
  made = canonical_of form x tiplocs distinct associations a schedules s

  made-text : text ≡ extract_text made
  unfolding text made
  made-text = written-text form x tiplocs distinct associations a schedules s

  made-lines : canon_lines x tiplocs associations schedules ≡ lines_of made
  unfolding made
  made-lines = written-lines form x tiplocs distinct associations a schedules s

  made-counts : counts ≡ counts_of made
  unfolding made
  made-counts =
      ap₂ (λ (n m : ℕ). record { tiplocs = length tiplocs; associations = n; schedules = m })
      (sym (AllZip-long (IsRunOf (association_entries x.associations)) associations a.records a.runs_of)
      ∙ number-of_associations a.records (dated-associations form x associations a))
      (sym (AllZip-long (IsRunOf (schedule_entries x.schedules)) schedules s.records s.runs_of)
      ∙ number-of_schedules s.records (dated-schedules form x schedules s))

  -- where what x says fits the columns of lines, so does what is made
  module _ (fits : FitsColumns x) where
    made-fit : FitsColumns made
    unfolding made
    made-fit = made-fits form x tiplocs distinct associations a schedules s fits

    abbrev canonical : IsCanonicalOf form x text
    unfolding made
    canonical = record {
      made = made;
      canonical = record {
        spelled = subst (λ t. BytesSpell t made) (sym made-text) (text-spells made made-fit);
        text = made-text;
        canonical = is-canonical form x tiplocs distinct associations a schedules s;
      };
      same = same-meaning form x tiplocs distinct associations a schedules s;
    }

    pub is-canon : IsCanonOf form x (record {
      text = canon_text x tiplocs associations schedules;
      lines = canon_lines x tiplocs associations schedules;
      counts = counts;
    })
    unfolding text canonical made
    is-canon = record {
      clear = record { associations = a.clear; schedules = s.clear };
      canonical = canonical;
      unique = normal-unique form x text canonical;
      again = its-own form x text canonical;
      reached = reached form x text canonical;
      lines_are = made-lines;
      counted = made-counts;
    }
