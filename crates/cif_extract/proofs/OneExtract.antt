-- Records are at most one extract.
use Rattle.cif_extract.proofs.Names.{Aa, AreExtract, AreJourney, AreSchedule, AreSchedules, Association, At, Basic, BodyLines, Bs, Bx, Call}
use Rattle.cif_extract.proofs.Names.{Detail, Extra, ExtractParts, HaveBody, Kind, Layouts, List, None, Option, Origin, Record, Schedule}
use Rattle.cif_extract.proofs.Names.{Some, SpellAllBy, SpellExtractBy, Terminus, Ti, Tiploc, Turn, Zz, [], ap, append_assoc, call_record}
use Rattle.cif_extract.proofs.Names.{extra_records, journey_records, kind_of, map, records_before_trailer, refl, subst, sym, ℕ, ⊎_elim}
use Rattle.cif_extract.proofs.{Each.Each, Each.each_append, Each.each_map, Each.each_so, Names.◌++◌, Names.◌∙◌, Names.◌∷◌, Names.◌≡◌}
use Rattle.cif_records.specs.declared.record.Record.TheVariants as of
use Rattle.cif_extract.proofs.{LayoutLaws.AreLayouts, Schedules.same_schedule}

-- P doesn't hold of the first record, if there is one
abbrev Stops : (Record → Type 0) → List Record → Type 0
Stops P [] = Unit {0}
Stops P (r ∷ records) = P r → ⊥

-- records are parted in one way only into those of which P holds and a rest that begins otherwise
parted : (P : Record → Type 0) (a b c d : List Record) → Each P a → Stops P b → Each P c → Stops P d → a ++ b ≡ c ++ d → (a ≡ c) × (b ≡ d)
parted P [] b [] d ea sb ec sd e = (refl, e)
parted P [] [] (r ∷ c) d ea sb ec sd e = cc
parted P [] (q ∷ b) (r ∷ c) d ea sb ec sd e = absurd (sb (let same : r ≡ q = cc in subst P same ec.0))
parted P (r ∷ a) b [] [] ea sb ec sd e = cc
parted P (r ∷ a) b [] (q ∷ d) ea sb ec sd e = absurd (sd (let same : r ≡ q = cc in subst P same ea.0))
parted P (r ∷ a) b (q ∷ c) d ea sb ec sd e =
    let heads : r ≡ q = cc in
    let tails : a ++ b ≡ c ++ d = cc in
    let more = parted P a b c d ea.1 sb ec.1 sd tails in
    (ap (λ x. x ∷ a) heads ∙ ap (λ (xs : List Record). q ∷ xs) more.0, more.1)

-- values whose images are equal, where the images of two are equal only where they are
pub same_values : {A R : Type 0} (f : A → R) → ((x y : A) → f x ≡ f y → x ≡ y) → (xs ys : List A) → map f xs ≡ map f ys → xs ≡ ys
same_values f one [] [] e = refl
same_values f one [] (y ∷ ys) e = cc
same_values f one (x ∷ xs) [] e = cc
same_values f one (x ∷ xs) (y ∷ ys) e =
    let heads : f x ≡ f y = cc in
    let tails : map f xs ≡ map f ys = cc in
    ap (λ z. z ∷ xs) (one x y heads) ∙ ap (λ zs. y ∷ zs) (same_values f one xs ys tails)

-- the record is of this kind, or isn't
abbrev Is : Kind → Record → Type 0
Is kind r = kind_of r ≡ kind

abbrev Isnt : Kind → Record → Type 0
Isnt kind r = kind_of r ≡ kind → ⊥

one_tiploc : (x y : Tiploc) → of.Tiploc x ≡ of.Tiploc y → x ≡ y
one_tiploc x y e = cc

one_association : (x y : Association) → of.Association x ≡ of.Association y → x ≡ y
one_association x y e = cc

-- neither a BS nor the trailer
abbrev pub Inside : Record → Type 0
Inside (of.Extra x) = Unit {0}
Inside (of.Origin o) = Unit {0}
Inside (of.Stop s) = Unit {0}
Inside (of.Change c) = Unit {0}
Inside (of.Terminus t) = Unit {0}
Inside _ = ⊥

call_inside : (c : Call) → Inside (call_record c)
call_inside (At s) = tt
call_inside (Turn s) = tt

-- what follows a BS and its BX, if anything, is no BX
abbrev NoExtra : List Record → Type 0
NoExtra journey = Stops (Is Bx) journey

one_extra : (x y : Option Extra) (a b : List Record) → NoExtra a → NoExtra b → extra_records x ++ a ≡ extra_records y ++ b →
    (x ≡ y) × (a ≡ b)
one_extra None None a b p q e = (refl, e)
one_extra None (Some y) [] b p q e = cc
one_extra None (Some y) (r ∷ a) b p q e = absurd (p (let same : r ≡ of.Extra y = cc in ap kind_of same))
one_extra (Some x) None a [] p q e = cc
one_extra (Some x) None a (r ∷ b) p q e = absurd (q (let same : r ≡ of.Extra x = cc in ap kind_of same))
one_extra (Some x) (Some y) a b p q e = (cc, cc)

no_extra : (d : Option Detail) (x : Option Extra) (journey : List Record) (body : Option BodyLines) → HaveBody d x journey body →
    NoExtra journey
no_extra (Some d) x journey (Some body) (j, is) = subst NoExtra (sym j.are) (λ e. cc)
no_extra None x journey None h =
    ⊎_elim (λ (none : journey ≡ []). subst NoExtra (sym none) tt)
    (λ (j : AreJourney journey). subst NoExtra (sym j.are) (λ e. cc)) h
no_extra (Some d) x journey None h = absurd h
no_extra None x journey (Some body) h = absurd h

one_body : (d : Option Detail) (x : Option Extra) (journey : List Record) (a b : Option BodyLines) → HaveBody d x journey a →
    HaveBody d x journey b → a ≡ b
one_body (Some d) x journey (Some a) (Some b) p q = ap Some (p.1 ∙ sym q.1)
one_body None x journey None None p q = refl
one_body (Some d) x journey None b p q = absurd p
one_body (Some d) x journey (Some a) None p q = absurd q
one_body None x journey (Some a) b p q = absurd p
one_body None x journey None (Some b) p q = absurd q

one_schedule : (records : List Record) (s t : Schedule) → AreSchedule records s → AreSchedule records t → s ≡ t
one_schedule records s t p q =
    let both : ◌≡◌ {A = List Record} (of.Basic p.basic ∷ (extra_records p.extra ++ p.journey))
    (of.Basic q.basic ∷ (extra_records q.extra ++ q.journey)) = sym p.parts ∙ q.parts in
    let basics : p.basic ≡ q.basic = cc in
    let rests : extra_records p.extra ++ p.journey ≡ extra_records q.extra ++ q.journey = cc in
    let two = one_extra p.extra q.extra p.journey q.journey (no_extra p.basic.detail p.extra p.journey s.body p.body)
    (no_extra q.basic.detail q.extra q.journey t.body q.body) rests in
    let body : HaveBody q.basic.detail q.extra q.journey s.body =
    subst (λ (b : Basic). HaveBody b.detail q.extra q.journey s.body) basics
    (subst (λ x. HaveBody p.basic.detail x q.journey s.body) two.0 (subst (λ j. HaveBody p.basic.detail p.extra j s.body) two.1 p.body)) in
    same_schedule s t
    (sym p.terms.uid ∙ ap (λ (b : Basic). b.uid) basics ∙ q.terms.uid)
    (sym p.terms.first ∙ ap (λ (b : Basic). b.first) basics ∙ q.terms.first)
    (sym p.terms.last ∙ ap (λ (b : Basic). b.last) basics ∙ q.terms.last)
    (sym p.terms.days ∙ ap (λ (b : Basic). b.days) basics ∙ q.terms.days)
    (sym p.terms.letter ∙ ap (λ (b : Basic). b.letter) basics ∙ q.terms.letter)
    (one_body q.basic.detail q.extra q.journey s.body t.body body q.body)

-- a schedule has one BS, at its front, and no trailer
pub further_inside : (d : Option Detail) (x : Option Extra) (journey : List Record) (body : Option BodyLines) → HaveBody d x journey body →
    Each Inside (extra_records x ++ journey)
further_inside d x journey body h = each_append Inside (extra_records x) journey (extra_inside x) (journey_inside d body h)
  where
    extra_inside : (x : Option Extra) → Each Inside (extra_records x)
    extra_inside None = tt
    extra_inside (Some y) = (tt, tt)

    whole_inside : (o : Origin) (calls : List Call) (t : Terminus) → Each Inside (journey_records o calls t)
    whole_inside o calls t =
        (tt, each_append Inside (map call_record calls) (of.Terminus t ∷ []) (each_map Inside call_record call_inside calls) (tt, tt))

    journey_inside : (d : Option Detail) (body : Option BodyLines) → HaveBody d x journey body → Each Inside journey
    journey_inside (Some d) (Some body) (j, is) = subst (Each Inside) (sym j.are) (whole_inside j.origin j.calls j.terminus)
    journey_inside None None h =
        ⊎_elim (λ (none : journey ≡ []). subst (Each Inside) (sym none) tt)
        (λ (j : AreJourney journey). subst (Each Inside) (sym j.are) (whole_inside j.origin j.calls j.terminus)) h
    journey_inside (Some d) None h = absurd h
    journey_inside None (Some body) h = absurd h

-- schedules begin with a BS
begin_so : (records : List Record) (schedules : List Schedule) → AreSchedules records schedules → Stops Inside records
begin_so records [] none = subst (Stops Inside) (sym none) tt
begin_so records (s ∷ schedules) are =
    let (own, others, parts, one, rest) = are in
    subst (Stops Inside) (sym (parts ∙ ap (λ rs. rs ++ others) one.parts)) (λ h. h)

one_schedules : (records : List Record) (xs ys : List Schedule) → AreSchedules records xs → AreSchedules records ys → xs ≡ ys
one_schedules records [] [] p q = refl
one_schedules records [] (y ∷ ys) p q =
    let (own, others, parts, one, rest) = q in
    let no : [] ≡ of.Basic one.basic ∷ ((extra_records one.extra ++ one.journey) ++ others) =
    sym p ∙ parts ∙ ap (λ rs. rs ++ others) one.parts in
    cc
one_schedules records (x ∷ xs) [] p q =
    let (own, others, parts, one, rest) = p in
    let no : [] ≡ of.Basic one.basic ∷ ((extra_records one.extra ++ one.journey) ++ others) =
    sym q ∙ parts ∙ ap (λ rs. rs ++ others) one.parts in
    cc
one_schedules records (x ∷ xs) (y ∷ ys) p q =
    let (own, others, parts, one, rest) = p in
    let (its, more, cut, other, last) = q in
    let both : ◌≡◌ {A = List Record} (of.Basic one.basic ∷ ((extra_records one.extra ++ one.journey) ++ others))
    (of.Basic other.basic ∷ ((extra_records other.extra ++ other.journey) ++ more)) =
    sym (parts ∙ ap (λ rs. rs ++ others) one.parts) ∙ (cut ∙ ap (λ rs. rs ++ more) other.parts) in
    let basics : one.basic ≡ other.basic = cc in
    let behind : (extra_records one.extra ++ one.journey) ++ others ≡ (extra_records other.extra ++ other.journey) ++ more = cc in
    let two = parted Inside (extra_records one.extra ++ one.journey) others (extra_records other.extra ++ other.journey) more
    (further_inside one.basic.detail one.extra one.journey x.body one.body) (begin_so others xs rest)
    (further_inside other.basic.detail other.extra other.journey y.body other.body) (begin_so more ys last) behind in
    let same : own ≡ its = one.parts ∙ ap (λ (b : Basic). of.Basic b ∷ (extra_records one.extra ++ one.journey)) basics
    ∙ ap (λ rs. of.Basic other.basic ∷ rs) two.0 ∙ sym other.parts in
    ap (λ s. s ∷ xs) (one_schedule its x y (subst (λ rs. AreSchedule rs x) same one) other)
    ∙ ap (λ ss. y ∷ ss) (one_schedules more xs ys (subst (λ rs. AreSchedules rs xs) two.1 rest) last)

-- the records of an extract, its parts one behind another
pub laid_out : (x : ExtractParts) (groups : List Record) → records_before_trailer x groups ++ (of.Trailer ∷ [])
    ≡ of.Header x.header ∷ (map of.Tiploc x.tiplocs ++ (map of.Association x.associations ++ (groups ++ (of.Trailer ∷ []))))
laid_out x groups =
    ap (λ rs. of.Header x.header ∷ rs)
    (append_assoc (map of.Tiploc x.tiplocs) (map of.Association x.associations ++ groups) (of.Trailer ∷ [])
    ∙ ap (λ rs. map of.Tiploc x.tiplocs ++ rs) (append_assoc (map of.Association x.associations) groups (of.Trailer ∷ [])))

-- no trailer stands among schedules
schedules_isnt : (records : List Record) (schedules : List Schedule) → AreSchedules records schedules → Each (Isnt Zz) records
schedules_isnt records [] none = subst (Each (Isnt Zz)) (sym none) tt
schedules_isnt records (s ∷ schedules) are =
    let (own, others, parts, one, rest) = are in
    subst (Each (Isnt Zz)) (sym parts)
    (each_append (Isnt Zz) own others (subst (Each (Isnt Zz)) (sym one.parts) (
      λ e. cc,
      each_so Inside (Isnt Zz) inside_isnt (extra_records one.extra ++ one.journey)
          (further_inside one.basic.detail one.extra one.journey s.body one.body),
    )) (schedules_isnt others schedules rest))
  where
    inside_isnt : (r : Record) → Inside r → Isnt Zz r
    inside_isnt of.Trailer h = absurd h
    inside_isnt _ h = λ e. cc

-- what begins with a schedule or the trailer begins with no other kind
tail_begins : (kind : Kind) → (Bs ≡ kind → ⊥) → (Zz ≡ kind → ⊥) → (groups : List Record) (schedules : List Schedule) →
    AreSchedules groups schedules → Stops (Is kind) (groups ++ (of.Trailer ∷ []))
tail_begins kind b z groups [] none = subst (λ rs. Stops (Is kind) (rs ++ (of.Trailer ∷ []))) (sym none) z
tail_begins kind b z groups (s ∷ schedules) are =
    let (own, others, parts, one, rest) = are in
    subst (λ rs. Stops (Is kind) (rs ++ (of.Trailer ∷ []))) (sym (parts ∙ ap (λ rs. rs ++ others) one.parts)) b

associations_begin : (xs : List Association) (groups : List Record) (schedules : List Schedule) → AreSchedules groups schedules →
    Stops (Is Ti) (map of.Association xs ++ (groups ++ (of.Trailer ∷ [])))
associations_begin [] groups schedules are = tail_begins Ti (λ e. cc) (λ e. cc) groups schedules are
associations_begin (x ∷ xs) groups schedules are = λ e. cc

pub same_extract_parts : (x y : ExtractParts) → x.header ≡ y.header → x.tiplocs ≡ y.tiplocs → x.associations ≡ y.associations →
    x.schedules ≡ y.schedules → x ≡ y
same_extract_parts x y h t a s =
    ap (λ header. record { header = header; tiplocs = x.tiplocs; associations = x.associations; schedules = x.schedules }) h
    ∙ ap (λ tiplocs. record { header = y.header; tiplocs = tiplocs; associations = x.associations; schedules = x.schedules }) t
    ∙ ap (λ associations. record { header = y.header; tiplocs = y.tiplocs; associations = associations; schedules = x.schedules }) a
    ∙ ap (λ schedules. record { header = y.header; tiplocs = y.tiplocs; associations = y.associations; schedules = schedules }) s

one_extract_of : (records : List Record) (x y : ExtractParts) → AreExtract records x → AreExtract records y → x ≡ y
one_extract_of records x y p q =
    let both : of.Header x.header ∷ (map of.Tiploc x.tiplocs ++ (map of.Association x.associations ++ (p.schedules ++ (of.Trailer ∷ []))))
    ≡ of.Header y.header ∷ (map of.Tiploc y.tiplocs ++ (map of.Association y.associations ++ (q.schedules ++ (of.Trailer ∷ [])))) =
    sym (p.parts ∙ laid_out x p.schedules) ∙ (q.parts ∙ laid_out y q.schedules) in
    let headers : x.header ≡ y.header = cc in
    let rests : map of.Tiploc x.tiplocs ++ (map of.Association x.associations ++ (p.schedules ++ (of.Trailer ∷ [])))
    ≡ map of.Tiploc y.tiplocs ++ (map of.Association y.associations ++ (q.schedules ++ (of.Trailer ∷ []))) = cc in
    let tiplocs = parted (Is Ti) (map of.Tiploc x.tiplocs) (map of.Association x.associations ++ (p.schedules ++ (of.Trailer ∷ [])))
    (map of.Tiploc y.tiplocs) (map of.Association y.associations ++ (q.schedules ++ (of.Trailer ∷ [])))
    (each_map (Is Ti) of.Tiploc (λ t. refl) x.tiplocs) (associations_begin x.associations p.schedules x.schedules p.are_schedules)
    (each_map (Is Ti) of.Tiploc (λ t. refl) y.tiplocs) (associations_begin y.associations q.schedules y.schedules q.are_schedules) rests in
    let associations = parted (Is Aa) (map of.Association x.associations) (p.schedules ++ (of.Trailer ∷ []))
    (map of.Association y.associations) (q.schedules ++ (of.Trailer ∷ []))
    (each_map (Is Aa) of.Association (λ a. refl) x.associations)
    (tail_begins Aa (λ e. cc) (λ e. cc) p.schedules x.schedules p.are_schedules)
    (each_map (Is Aa) of.Association (λ a. refl) y.associations)
    (tail_begins Aa (λ e. cc) (λ e. cc) q.schedules y.schedules q.are_schedules) tiplocs.1 in
    let schedules = parted (Isnt Zz) p.schedules (of.Trailer ∷ []) q.schedules (of.Trailer ∷ [])
    (schedules_isnt p.schedules x.schedules p.are_schedules) (λ h. h refl)
    (schedules_isnt q.schedules y.schedules q.are_schedules) (λ h. h refl) associations.1 in
    same_extract_parts x y headers (same_values of.Tiploc one_tiploc x.tiplocs y.tiplocs tiplocs.0)
    (same_values of.Association one_association x.associations y.associations associations.0)
    (one_schedules q.schedules x.schedules y.schedules (subst
    (λ rs. AreSchedules rs x.schedules) schedules.0 p.are_schedules) q.are_schedules)

module _ (layouts : Layouts) (laws : AreLayouts layouts) where
  one_spelling : (lines : List (List ℕ)) (rs qs : List Record) → SpellAllBy layouts.spells lines rs → SpellAllBy layouts.spells lines qs →
      rs ≡ qs
  one_spelling [] [] [] p q = refl
  one_spelling [] [] (y ∷ qs) p q = absurd q
  one_spelling [] (x ∷ rs) qs p q = absurd p
  one_spelling (line ∷ lines) [] qs p q = absurd p
  one_spelling (line ∷ lines) (x ∷ rs) [] p q = absurd q
  one_spelling (line ∷ lines) (x ∷ rs) (y ∷ qs) p q =
      ap (λ r. r ∷ rs) (laws.one line x y p.0 q.0) ∙ ap (λ zs. y ∷ zs) (one_spelling lines rs qs p.1 q.1)

  -- lines spell at most one extract
  pub one_extract : (lines : List (List ℕ)) (x y : ExtractParts) → SpellExtractBy layouts.spells lines x →
      SpellExtractBy layouts.spells lines y → x ≡ y
  one_extract lines x y p q =
      one_extract_of q.records x y
      (subst (λ rs. AreExtract rs x) (one_spelling lines p.records q.records p.spelled q.spelled) p.are) q.are
