-- What a line that is taken comes to, by its kind.
use Rattle.cif_extract.proofs.Names.{AllStandIn, Err, GoesOnPlainly, HasLast, HasRead, IsFurther, IsFurtherPlainly, IsJudged, IsKeepable}
use Rattle.cif_extract.proofs.Names.{IsKept, IsPlainOf, IsTaken, Kind, Li, List, Lt, Ok, Option, Place, Progress, Record, Refusal, Result}
use Rattle.cif_extract.proofs.Names.{Some, SpellsRecord, TakeFault, Terminus, UnlessRefused, [], after_further, ap, first_of, keeping}
use Rattle.cif_extract.proofs.Names.{kind_in, may_stand, no_refusal, order_refusal, own_layouts, plain_line, record_refusal, record_table}
use Rattle.cif_extract.proofs.Names.{refl, refusal_at, step, subst, sym, true, with_kept, ℕ, ◌∙◌, ◌∷◌, ◌≡◌, ◌≢◌}
use Rattle.cif_records.proofs.Records.{kind_of as record_kind, kind_there as spelled_kind}
use Rattle.cif_records.specs.declared.record.Record.TheVariants as of
use Rattle.cif_extract.{proofs.FirstRefusals.or_none, specs.Steps.Reading.kept}
use Rattle.cif_extract.specs.declared.place.Place.TheVariants as at
use Rattle.cif_extract.specs.declared.reading.TakeFault.TheVariants as untaken

-- where a kind may stand, a line of it is refused for its fields alone
pub refusal_of_record : (place : Place) (line : List ℕ) (kind : Kind) → kind_in line ≡ Some kind → may_stand place kind ≡ true →
    refusal_at own_layouts place line ≡ record_refusal line
refusal_of_record place line kind is allowed =
    ap (λ k. first_of (order_refusal place k ∷ record_refusal line ∷ [])) is ∙ rw allowed (or_none (record_refusal line))

-- what a step comes to says more
pub refused_so : (refusal : Option Refusal) {P Q : Type 0} → (P → Q) → (result : Result Unit TakeFault) → UnlessRefused refusal P result
    → UnlessRefused refusal Q result
refused_so refusal so (Ok done) h = (h.0, so h.1)
refused_so refusal so (Err (untaken.Refused why)) h = h
refused_so refusal so (Err untaken.Memory) h = tt

-- a line whose plain line is kept
pub kept_plain : (line plain : List ℕ) (p after : Progress)
    → IsJudged (record_refusal line) (IsPlainOf Record record_table line) (Ok plain) → after ≡ keeping p plain
    → IsKept (record_refusal line) line p (Ok tt) after
kept_plain line plain p after (fine, of) is = (
  fine,
  (of.value, of.stands, subst (λ l. AllStandIn l (record_table of.value)) of.same of.again, is ∙ ap (keeping p) of.same),
)

-- the kind of what a line spells, where it is known
pub kind_here : (line : List ℕ) (r : Record) (kind : Kind) → SpellsRecord line r → kind_in line ≡ Some kind → record_kind r ≡ kind
kind_here line r kind spells is = let there = spelled_kind line r spells in cc

-- one step by a record whose line is kept
module _ (p : Progress) where
  -- what the step comes to where the place after it is this
  abbrev pub IsStep : Place → Record → Type 0
  IsStep place r = IsKeepable r × (record p { place = place; lines = kept p.opened p.lines r } ≡ step p r)

  step_further : (r : Record) → IsFurther (Some (record_kind r)) → AllStandIn (plain_line (record_table r)) (record_table r) →
      IsStep (after_further p.place (record_kind r)) r
  step_further (of.Extra x) h stands = (stands, refl)
  step_further (of.Origin x) h stands = (stands, refl)
  step_further (of.Stop x) h stands = (stands, refl)
  step_further (of.Change x) h stands = (stands, refl)
  step_further _ h stands = absurd h

  pub taken_further : (line : List ℕ) (kind : Kind) (after : Progress) (result : Result Unit TakeFault) → kind_in line ≡ Some kind
      → IsFurther (kind_in line) → IsKept (record_refusal line) line (record p { place = after_further p.place kind }) result after
      → IsTaken (record_refusal line) line p result after
  taken_further line kind after result is h = refused_so (record_refusal line) (λ (r, spells, again, now).
      let (keepable, stepped) = step_further r (subst IsFurther (spelled_kind line r spells) h) again in
      let placed = ap (λ k. record p { place = after_further p.place k; lines = kept p.opened p.lines r })
      (sym (kind_here line r kind spells is)) in
      (r, spells, keepable, now ∙ placed ∙ stepped)) result

-- a plain line of a location on the way, where one may stand
pub plain_stop : (p after : Progress) (line : List ℕ) → GoesOnPlainly p.place line → after ≡ keeping p line →
    IsTaken (refusal_at own_layouts p.place line) line p (Ok tt) after
plain_stop p after line h is = (
  refusal_of_record p.place line Li (spelled_kind line r h.spelled) (ap (λ q. may_stand q Li) h.here) ∙ no_refusal line r h.spelled,
  (r, h.spelled, subst (λ l. AllStandIn l (record_table r)) (sym h.plain) h.spelled, is ∙ stepped),
)
  where
    r : Record
    r = of.Stop h.stop

    stepped : keeping p line ≡ step p r
    stepped =
        ap (λ l. record p { lines = with_kept p.opened p.lines l }) (sym h.plain)
        ∙ ap (λ q. record p { place = q; lines = kept p.opened p.lines r }) h.here

-- a plain line of a BX, or of a location or a change of a journey but its last, where one may stand
pub plain_further : (p after : Progress) (line : List ℕ) (kind : Kind) → IsFurtherPlainly p.place line kind → kind ≢ Lt
    → after ≡ keeping (record p { place = after_further p.place kind }) line
    → IsTaken (refusal_at own_layouts p.place line) line p (Ok tt) after
plain_further p after line kind h other is =
    subst (λ refusal. IsTaken refusal line p (Ok tt) after)
    (sym (refusal_of_record p.place line kind h.plain.kind_there h.allowed))
    (taken_further p line kind after (Ok tt) h.plain.kind_there (subst IsFurther (sym h.plain.kind_there) (h.further other))
    (kept_plain line line (record p { place = after_further p.place kind }) after (h.plain.fine, h.plain.of) is))

-- a record of this kind is a last location
pub is_terminus : (r : Record) → record_kind r ≡ Lt → (t : Terminus) × (r ≡ of.Terminus t)
is_terminus (of.Terminus x) h = (x, refl)
is_terminus _ h = absurd (cc)

-- an LT stands in a journey
pub journey_where : (place : Place) → may_stand place Lt ≡ true → place ≡ at.Journey
journey_where at.Journey h = refl
journey_where _ h = absurd (cc)

-- the line of one, which is kept
pub has_last : (p after : Progress) (line : List ℕ) (records : List Record) → HasRead records p → p.place ≡ at.Journey →
    kind_in line ≡ Some Lt → (r : Record) → SpellsRecord line r → AllStandIn (plain_line (record_table r)) (record_table r) →
    after ≡ record p { lines = kept p.opened p.lines r } → HasLast p line after
has_last p after line records read here lt r spells again is =
    let (t, same) = is_terminus r (kind_here line r Lt spells lt) in
    record {
      records = records;
      read = read;
      here = here;
      last = t;
      spelled = rw same at spells;
      again = rw same at again;
      is = rw same at is;
    }

-- a plain line of one, where it may stand
pub plain_last : (p after : Progress) (line : List ℕ) (records : List Record) → HasRead records p → IsFurtherPlainly p.place line Lt →
    after ≡ keeping p line → HasLast p line after
plain_last p after line records read h is =
    let (fine, (r, spells, again, now)) = kept_plain line line p after (h.plain.fine, h.plain.of) is in
    has_last p after line records read (journey_where p.place h.allowed) h.plain.kind_there r spells again now
