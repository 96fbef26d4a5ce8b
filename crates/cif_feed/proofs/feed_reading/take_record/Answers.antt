-- It is refused for its fields (`in_place`), or the record that it spells is put (`put_taken`).
use Rattle.cif_feed.proofs.Names.{IsKeepable, IsMarkedTaken, Kind, LineMark, Ok, Progress, Record, Refusal, Result, Some, SpellsInFeed}
use Rattle.cif_feed.proofs.Names.{TakeFault, ap, feed_refusal_as, kind_in, mark_of, may_stand, progress_of, read_as, refl, step, sym, true}
use Rattle.cif_feed.{proofs.Names.◌∙◌, proofs.Names.◌≡◌, proofs.FeedSteps.in_place, proofs.FeedSteps.put_taken, proofs.MarkLaws.passed_on}
use Rattle.cif_feed.{proofs.feed_reading.take_record.Goals.Else-not-allows}
use Rattle.std.specs.Result.{IsErrAnd}
use Rattle.cif_records.specs.declared.record.Record.TheVariants as of
use Rattle.cif_extract.specs.declared.reading.TakeFault.TheVariants.{Refused}
use Rattle.cif_feed.specs.declared.mark.LineMark.TheVariants as mark
use Rattle.cif_feed.proofs.feed_reading.take_record.Goals as goal

module _ (c : Else-not-allows) where
  abbrev before : Progress
  before = progress_of c.args.reading.now

  abbrev Taken : Progress → Result LineMark TakeFault → Type 0
  Taken after result = IsMarkedTaken c.args.feed c.args.allowed (c.args.number, c.args.line.now) before result after

  named : Some c.in-Some.kind ≡ kind_in c.args.line.now
  named = sym c.in-Some.is ∙ c.kind_of.ensures.kind

  may : may_stand c.args.reading.now.place (read_as c.args.feed c.in-Some.kind) ≡ true
  may = ap (may_stand c.args.reading.now.place) (sym c.read_as.ensures) ∙ sym c.allows.ensures ∙ c.if-not-allows.false

  -- a field is refused
  refused : (kind : Kind) → c.in-Some.kind ≡ kind → (why : Refusal)
      → feed_refusal_as c.args.feed c.args.allowed (Some kind) c.args.line.now ≡ Some why
      → (after : Progress) (result : Result LineMark TakeFault) → IsErrAnd result (λ e. e ≡ Refused why) → Taken after result
  refused kind is why reason after result handed =
      passed_on (Taken after) (Refused why) result handed
      (in_place c.args.feed c.args.allowed c.args.line.now before c.in-Some.kind named may
      ∙ ap (λ k. feed_refusal_as c.args.feed c.args.allowed (Some k) c.args.line.now) is ∙ reason)

  module _ (r : Record) (spells : SpellsInFeed c.args.feed c.args.allowed c.args.line.now r) (after : Progress) where
    -- the record is put
    put : (m : LineMark) (kind : Kind) → c.in-Some.kind ≡ kind
        → m ≡ mark_of c.args.allowed (Some kind) (c.args.number, c.args.line.now)
        → IsKeepable r × (after ≡ step before r) → Taken after (Ok m)
    put m kind is marked taken = (
      put_taken c.args.feed c.args.allowed c.args.line.now before c.in-Some.kind named may r spells after taken,
      marked ∙ ap (λ k. mark_of c.args.allowed k (c.args.number, c.args.line.now)) (ap Some (sym is) ∙ named),
    )

-- ---- HD

pub returns-in_ok-read_header-in-Hd-default : goal.returns-in_ok-read_header-in-Hd-default
returns-in_ok-read_header-in-Hd-default c =
    let read = c.in_ok-read_header-in-Hd-default in
    put (goal.at.returns-in_ok-read_header-in-Hd-default c).Else-not-allows (of.Header read.field-0) (read.ensures c.args.allowed).1
    (progress_of c.put_header.new.self) (mark.Header c.args.number) _ c.in-Hd-default.is-0 refl (tt, c.put_header.ensures)

pub returns-in_err-read_header-in-Hd-default : goal.returns-in_err-read_header-in-Hd-default
returns-in_err-read_header-in-Hd-default c =
    let read = c.in_err-read_header-in-Hd-default in
    refused (goal.at.returns-in_err-read_header-in-Hd-default c).Else-not-allows _ c.in-Hd-default.is-0 read.field-0.0
    (read.ensures c.args.allowed) _ c.from_residual.result c.from_residual.ensures.1

-- ---- AA

pub returns-in_ok-put_association-in-Aa-default : goal.returns-in_ok-put_association-in-Aa-default
returns-in_ok-put_association-in-Aa-default c =
    let read = c.in_ok-association-in-Aa-default in
    let is = (read.ensures c.args.allowed).1 in
    put (goal.at.returns-in_ok-put_association-in-Aa-default c).Else-not-allows (of.Association read.association) is.0
    (progress_of c.put_association.new.self) (mark.Association read.mark) _ c.in-Aa-default.is-0 (ap mark.Association is.1)
    (tt, c.in_ok-put_association-in-Aa-default.ensures)

pub returns-in_err-association-in-Aa-default : goal.returns-in_err-association-in-Aa-default
returns-in_err-association-in-Aa-default c =
    let read = c.in_err-association-in-Aa-default in
    let handed = c.from_residual-in_err-association-in-Aa-default in
    refused (goal.at.returns-in_err-association-in-Aa-default c).Else-not-allows _ c.in-Aa-default.is-0 read.field-0.0
    (read.ensures c.args.allowed) _ handed.result handed.ensures.1

-- ---- BS

pub returns-in_ok-put_basic-in-Bs-default : goal.returns-in_ok-put_basic-in-Bs-default
returns-in_ok-put_basic-in-Bs-default c =
    let read = c.in_ok-terms-in-Bs-default in
    let is = read.ensures.1 in
    put (goal.at.returns-in_ok-put_basic-in-Bs-default c).Else-not-allows (of.Basic is.0.basic) is.0.spells
    (progress_of c.put_basic.new.self) (mark.Schedule read.mark) _ c.in-Bs-default.is-0 (ap mark.Schedule is.1)
    (c.in_ok-put_basic-in-Bs-default.ensures is.0.basic is.0.terms is.0.detail)

pub returns-in_err-terms-in-Bs-default : goal.returns-in_err-terms-in-Bs-default
returns-in_err-terms-in-Bs-default c =
    let read = c.in_err-terms-in-Bs-default in
    let handed = c.from_residual-in_err-terms-in-Bs-default in
    refused (goal.at.returns-in_err-terms-in-Bs-default c).Else-not-allows _ c.in-Bs-default.is-0 read.field-0.0
    read.ensures _ handed.result handed.ensures.1

-- ---- TI, TA and TD

pub returns-in_ok-put_tiploc-in-Ti-default : goal.returns-in_ok-put_tiploc-in-Ti-default
returns-in_ok-put_tiploc-in-Ti-default c =
    let read = c.read_tiploc in
    put (goal.at.returns-in_ok-put_tiploc-in-Ti-default c).Else-not-allows (of.Tiploc read.result.0) (read.ensures.spells c.args.allowed)
    (progress_of c.put_tiploc.new.self) (mark.Tiploc read.result.1) c.in-Some.kind refl (read.ensures.mark c.args.allowed)
    (tt, c.in_ok-put_tiploc-in-Ti-default.ensures)

-- ---- any other

pub returns-in_default-2 : goal.returns-in_default-2
returns-in_default-2 c = c.take_own.ensures c.args.allowed c.args.number
