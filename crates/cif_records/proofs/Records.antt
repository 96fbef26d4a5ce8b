-- A line spells one record at most, of the kind that it names, and there is no reason to refuse a line that spells one.
use Rattle.cif_records.proofs.Names.{Aa, AllFit, AssocBody, AssocKey, Association, Basic, Bool, Bs, Bx, Change, Cr, Detail, Err, Extra, Hd}
use Rattle.cif_records.proofs.Names.{Header, IsJudged, IsLine, IsPlainOf, Kind, Li, List, Lo, Lt, None, Ok, Option, Origin, Record, Refusal}
use Rattle.cif_records.proofs.Names.{Result, Some, SpellsRecord, Stop, Stp, Terminus, Ti, Tiploc, Zz, ap, association_rows, basic_rows}
use Rattle.cif_records.proofs.Names.{codes, columns, is_whole_from, kind_in, line-plain_line, plain_line, record_refusal, record_table}
use Rattle.cif_records.proofs.Names.{refl, refusal_as, stands-plain_line, subst, sym, true, ℕ, ◌∙◌, ◌≡◌}
use Rattle.cif_columns.proofs.StoodValues as stood
use Rattle.cif_records.proofs.Associations as associations
use Rattle.cif_records.proofs.Basics as basics
use Rattle.cif_records.proofs.Changes as changes
use Rattle.cif_records.proofs.Extras as extras
use Rattle.cif_records.proofs.Headers as headers
use Rattle.cif_records.{proofs.Identities.only_kind, proofs.Judging.none-some, specs.Kind.identity}
use Rattle.cif_records.proofs.Origins as origins
use Rattle.cif_records.proofs.Stops as stops
use Rattle.cif_records.proofs.Termini as termini
use Rattle.cif_records.proofs.Tiplocs as tiplocs
use Rattle.cif_records.proofs.Trailers as trailers
use Rattle.cif_records.specs.declared.record.Record.TheVariants as a

-- what a record of a kind holds; amended and deleted locations are never held
abbrev Held : Kind → Type 0
Held Hd = Header
Held Ti = Tiploc
Held Aa = Association
Held Bs = Basic
Held Bx = Extra
Held Lo = Origin
Held Li = Stop
Held Cr = Change
Held Lt = Terminus
Held Zz = Unit {0}
Held _ = ⊥

abbrev record_with : (k : Kind) → Held k → Record
record_with Hd h = a.Header h
record_with Ti h = a.Tiploc h
record_with Aa h = a.Association h
record_with Bs h = a.Basic h
record_with Bx h = a.Extra h
record_with Lo h = a.Origin h
record_with Li h = a.Stop h
record_with Cr h = a.Change h
record_with Lt h = a.Terminus h
record_with Zz h = a.Trailer
record_with _ h = absurd h

-- the kind of a record
abbrev pub kind_of : Record → Kind
kind_of (a.Header h) = Hd
kind_of (a.Tiploc h) = Ti
kind_of (a.Association h) = Aa
kind_of (a.Basic h) = Bs
kind_of (a.Extra h) = Bx
kind_of (a.Origin h) = Lo
kind_of (a.Stop h) = Li
kind_of (a.Change h) = Cr
kind_of (a.Terminus h) = Lt
kind_of a.Trailer = Zz

abbrev held : (r : Record) → Held (kind_of r)
held (a.Header h) = h
held (a.Tiploc h) = h
held (a.Association h) = h
held (a.Basic h) = h
held (a.Extra h) = h
held (a.Origin h) = h
held (a.Stop h) = h
held (a.Change h) = h
held (a.Terminus h) = h
held a.Trailer = tt

-- a record is the one with what it holds
record_with-held : (r : Record) → record_with (kind_of r) (held r) ≡ r
record_with-held (a.Header h) = refl
record_with-held _ = refl

identity_there : (line : List ℕ) (r : Record) → SpellsRecord line r → columns 1 2 line ≡ identity (kind_of r)
identity_there line (a.Header h) s = s.0
identity_there line _ s = s.0

-- a line that spells a record names its kind
pub kind_there : (line : List ℕ) (r : Record) → SpellsRecord line r → kind_in line ≡ Some (kind_of r)
kind_there line r s = only_kind (columns 1 2 line) (kind_of r) (identity_there line r s)

-- of each kind a line spells one record at most
one_of_kind : (line : List ℕ) (k : Kind) (p q : Held k) → SpellsRecord line (record_with k p) → SpellsRecord line (record_with k q) → p ≡ q
one_of_kind line Hd p q m n = headers.one_header line (codes "F") p q m n
one_of_kind line Ti p q m n = tiplocs.one_tiploc line p q m n
one_of_kind line Aa p q m n = associations.one_association line p q m n
one_of_kind line Bs p q m n = basics.one_basic line p q m n
one_of_kind line Bx p q m n = extras.one_extra line p q m n
one_of_kind line Lo p q m n = origins.one_origin line p q m n
one_of_kind line Li p q m n = stops.one_stop line p q m n
one_of_kind line Cr p q m n = changes.one_change line p q m n
one_of_kind line Lt p q m n = termini.one_terminus line p q m n
one_of_kind line Zz p q m n = refl
one_of_kind line _ p q m n = absurd p

-- two records that a line spells are one
pub one_record : (line : List ℕ) (r q : Record) → SpellsRecord line r → SpellsRecord line q → r ≡ q
one_record line r q m n =
    let named : ◌≡◌ {A = Option Kind} (Some (kind_of r)) (Some (kind_of q)) = sym (kind_there line r m) ∙ kind_there line q n in
    let same : kind_of r ≡ kind_of q = cc in
    let held_twice : (p : Held (kind_of q)) → SpellsRecord line (record_with (kind_of q) p) → record_with (kind_of r) (held r) ≡ record_with
    (kind_of q) p =
    subst (λ k. (p : Held k) → SpellsRecord line (record_with k p) → record_with (kind_of r) (held r) ≡ record_with k p) same
    (λ p s. ap (record_with (kind_of r)) (one_of_kind line (kind_of r) (held r) p
    (subst (SpellsRecord line) (sym (record_with-held r)) m) s)) in
    sym (record_with-held r) ∙ held_twice (held q) (subst (SpellsRecord line) (sym (record_with-held q)) n) ∙ record_with-held q

-- and none by its kind
pub no_refusal_as : (line : List ℕ) (r : Record) → SpellsRecord line r → refusal_as (Some (kind_of r)) line ≡ None
no_refusal_as line (a.Header h) s = headers.no_refusal line (codes "F") h s
no_refusal_as line (a.Tiploc h) s = tiplocs.no_refusal line h s
no_refusal_as line (a.Association h) s = associations.no_refusal line h s
no_refusal_as line (a.Basic h) s = basics.no_refusal line h s
no_refusal_as line (a.Extra h) s = extras.no_refusal line h s
no_refusal_as line (a.Origin h) s = origins.no_refusal line h s
no_refusal_as line (a.Stop h) s = stops.no_refusal line h s
no_refusal_as line (a.Change h) s = changes.no_refusal line h s
no_refusal_as line (a.Terminus h) s = termini.no_refusal line h s
no_refusal_as line a.Trailer s = trailers.no_refusal line s

-- the reason to refuse a line that names a kind
pub refusal-kind : (line : List ℕ) (k : Kind) → kind_in line ≡ Some k → record_refusal line ≡ refusal_as (Some k) line
unfolding record_refusal
refusal-kind line k e = ap (λ found. refusal_as found line) e

-- there is no reason to refuse a line that spells a record
pub no_refusal : (line : List ℕ) (r : Record) → SpellsRecord line r → record_refusal line ≡ None
no_refusal line r s = refusal-kind line (kind_of r) (kind_there line r s) ∙ no_refusal_as line r s

-- a line that spells a record has one plain line
pub only_plain : (line : List ℕ) (result : Result (List ℕ) Refusal)
    → IsJudged (record_refusal line) (IsPlainOf Record record_table line) result
    → (r : Record) → SpellsRecord line r → result ≡ Ok (plain_line (record_table r))
only_plain line (Ok plain) h r s = ap Ok (h.1.same ∙ ap (λ q. plain_line (record_table q)) (one_record line h.1.value r h.1.stands s))
only_plain line (Err why) h r s = absurd (none-some (record_refusal line) why (no_refusal line r s) h)

-- a body takes its columns, or they are spare
with_body : (key : AssocKey) (first last : ℕ) (days : List Bool) (letter : Stp) (o : Option AssocBody)
    → stood.have_widths (association_rows key first last days letter o) ≡ true
with_body key first last days letter None = refl
with_body key first last days letter (Some b) = refl

with_detail : (uid : List ℕ) (first last : ℕ) (days : List Bool) (letter : Stp) (o : Option Detail)
    → stood.have_widths (basic_rows uid first last days letter o) ≡ true
with_detail uid first last days letter None = refl
with_detail uid first last days letter (Some d) = refl

-- what a line says of a record fits its columns
pub fit : (line : List ℕ) → IsLine line → (r : Record) → SpellsRecord line r → AllFit (record_table r)
fit line is_line (a.Header h) s = headers.fits h
fit line is_line (a.Association h) s = stood.fit line is_line (record_table (a.Association h)) refl
    (with_body h.key h.first h.last h.days h.letter h.body) s
fit line is_line (a.Basic h) s = stood.fit line is_line (record_table (a.Basic h)) refl
    (with_detail h.uid h.first h.last h.days h.letter h.detail) s
fit line is_line other s = stood.fit line is_line (record_table other) refl refl s

-- a record's table has each column once
whole : (r : Record) → is_whole_from 1 (record_table r) ≡ true
whole (a.Header h) = refl
whole _ = refl

-- where a record's values fit, its plain line is a line, and spells it
pub line : (r : Record) → AllFit (record_table r) → IsLine (plain_line (record_table r))
line r fits = line-plain_line (record_table r) (whole r) fits

pub spells : (r : Record) → AllFit (record_table r) → SpellsRecord (plain_line (record_table r)) r
spells r fits = stands-plain_line (record_table r) (whole r) fits
