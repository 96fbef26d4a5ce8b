-- What may stand leads on to an extract: records that may stand as they do, from a header on, begin one.
use Rattle.cif_extract.proofs.Names.{All-nil, AllStandIn, AreCodes, AreExtract, BeginExtract, Bs, Fits, HasRead, HasReadAt, IsCode}
use Rattle.cif_extract.proofs.Names.{IsPrintable, List, Lo, Lt, Origin, Place, Progress, Record, Terminus, [], ap, append-nil, append_assoc}
use Rattle.cif_extract.proofs.Names.{arith, codes, inl, may_stand, origin_table, parts_with_header, plain_line, printable_fact, refl}
use Rattle.cif_extract.proofs.Names.{replicate, stands-plain_line, step, subst, sym, terminus_table, text, true, ℕ, ◌++◌, ◌∙◌, ◌∷◌, ◌≡◌}
use Rattle.cif_records.proofs.Rows.{◌&◌}
use Rattle.cif_records.specs.declared.record.Record.TheVariants as of
use Rattle.cif_extract.proofs.{JourneySteps.has_read_more, ReadingSteps.trailer_where}
use Rattle.cif_extract.specs.declared.place.Place.TheVariants as at

no_text : (width : ℕ) → Fits width (text [])
no_text width = (omega arith, record { trimmed = record { start = λ e. cc; stop = λ e. cc }; printable = All-nil IsPrintable })

no_codes : AreCodes []
no_codes = record { few = omega arith; each = All-nil IsCode }

-- a first location and a last one of blanks
abbrev blank_origin : Origin
blank_origin = record {
  location = [];
  suffix = [];
  departure = replicate 5 32;
  public_departure = replicate 4 32;
  platform = [];
  line = [];
  engineering = [];
  pathing = [];
  activities = [];
  performance = [];
}

abbrev blank_terminus : Terminus
blank_terminus = record {
  location = [];
  suffix = [];
  arrival = replicate 5 32;
  public_arrival = replicate 4 32;
  platform = [];
  path = [];
  activities = [];
}

origin_again : AllStandIn (plain_line (origin_table blank_origin)) (origin_table blank_origin)
origin_again =
    stands-plain_line (origin_table blank_origin) refl
    ((refl, printable_fact (codes "LO") refl) & no_text 7 & no_text 1 & (refl, refl, inl refl) & (refl, refl, inl refl) & no_text 3
    & no_text 3 & no_text 2 & no_text 2 & (refl, no_codes) & no_text 2 & tt & tt)

terminus_again : AllStandIn (plain_line (terminus_table blank_terminus)) (terminus_table blank_terminus)
terminus_again =
    stands-plain_line (terminus_table blank_terminus) refl
    ((refl, printable_fact (codes "LT") refl) & no_text 7 & no_text 1 & (refl, refl, inl refl) & (refl, refl, inl refl) & no_text 3
    & no_text 3 & (refl, no_codes) & tt & tt)

-- where one record more begins an extract, so do these
by_one : (records : List Record) (r : Record) → BeginExtract (records ++ (r ∷ [])) → BeginExtract records
by_one records r b = record {
  more = r ∷ b.more;
  parts = b.parts;
  are = subst (λ rs. AreExtract rs b.parts) (append_assoc records (r ∷ []) b.more) b.are;
}

whole_begins : (records : List Record) (p : Progress) → HasReadAt at.Ended records p → BeginExtract records
whole_begins records p w = record {
  more = [];
  parts = parts_with_header p w.header p.schedules;
  are = subst (λ rs. AreExtract rs (parts_with_header p w.header p.schedules)) (sym (append-nil records)) w.are;
}

module _ (records : List Record) (p : Progress) (h : HasRead records p) where
  closed_begins : may_stand p.place Bs ≡ true → BeginExtract records
  closed_begins may =
      by_one records of.Trailer
      (whole_begins (records ++ (of.Trailer ∷ [])) (step p of.Trailer)
      (has_read_more records p of.Trailer tt h (trailer_where records p p.place ∙ may)))

journey_begins : (records : List Record) (p : Progress) → HasRead records p → may_stand p.place Lt ≡ true → BeginExtract records
journey_begins records p h may =
    by_one records (of.Terminus blank_terminus)
    (closed_begins (records ++ (of.Terminus blank_terminus ∷ [])) (step p (of.Terminus blank_terminus))
    (has_read_more records p (of.Terminus blank_terminus) terminus_again h may) refl)

origin_begins : (records : List Record) (p : Progress) → HasRead records p → may_stand p.place Lo ≡ true → BeginExtract records
origin_begins records p h may =
    by_one records (of.Origin blank_origin)
    (journey_begins (records ++ (of.Origin blank_origin ∷ [])) (step p (of.Origin blank_origin))
    (has_read_more records p (of.Origin blank_origin) origin_again h may) refl)

-- what has been read from a header on begins an extract
module _ (records : List Record) (p : Progress) where
  begins_where : (place : Place) → place ≡ p.place → HasReadAt place records p → HasRead records p → (place ≡ at.Start → ⊥) →
      BeginExtract records
  begins_where at.Start e there h going = absurd (going refl)
  begins_where at.Basic e there h going = origin_begins records p h (ap (λ q. may_stand q Lo) (sym e))
  begins_where at.Extra e there h going = origin_begins records p h (ap (λ q. may_stand q Lo) (sym e))
  begins_where at.Journey e there h going = journey_begins records p h (ap (λ q. may_stand q Lt) (sym e))
  begins_where at.Ended e there h going = whole_begins records p there
  begins_where _ e there h going = closed_begins records p h (ap (λ q. may_stand q Bs) (sym e))

  pub read_begins : HasRead records p → (p.place ≡ at.Start → ⊥) → BeginExtract records
  read_begins h going = begins_where p.place refl h h going
