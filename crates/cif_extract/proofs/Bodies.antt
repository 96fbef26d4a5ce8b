-- What stands in the lines that keep a body.
use Rattle.cif_extract.proofs.Names.{All, All-cons, All-nil, AllStandIn, BodyLines, BodyParts, Call, Detail, Err, Extra, IfSome, IsJudged}
use Rattle.cif_extract.proofs.Names.{KeepAll, KeepBody, KeepJourney, KeepSomeBody, List, None, Ok, Option, Origin, Refusal, Result, Some}
use Rattle.cif_extract.proofs.Names.{SpellsExtra, SpellsRecord, SpellsSomeCall, Terminus, [], ap, arith, body_of, body_records, body_tables}
use Rattle.cif_extract.proofs.Names.{call_in, call_record, cond, detail_in-stands, detail_of, detail_table, extra_in, extra_refusal, false}
use Rattle.cif_extract.proofs.Names.{get_or, get_or-append_seam, is_extra, is_some, journey_in, journey_records, length, length-append, map}
use Rattle.cif_extract.proofs.Names.{parts_in, plain_line, record_table, refl, slice_range, subst, suc, sym, take, take-append_seam, true}
use Rattle.cif_extract.proofs.Names.{ℕ, ◌++◌, ◌-◌, ◌<◌, ◌↔◌, ◌∙◌, ◌∷◌, ◌≡◌}
use Rattle.std.specs.Result.{result_ok}
use Rattle.cif_records.proofs.{Extras.extra_in-spells, Origins.origin_in-spells, Termini.terminus_in-spells}
use Rattle.cif_records.specs.declared.record.Record.TheVariants as of
use Rattle.cif_extract.proofs.{CallLines.call_in-spells, WrittenLines.kept_plain}

-- the lines from the first call to LT
pub record Way (lines : List (List ℕ)) (calls : List Call) (terminus : Terminus) : Type 0 where
  pub front : List (List ℕ)
  pub last : List ℕ
  pub is : lines ≡ front ++ last ∷ []
  pub spelled : All SpellsSomeCall front
  pub called : map call_in front ≡ calls
  pub ended : SpellsRecord last (of.Terminus terminus)

pub way : (lines : List (List ℕ)) (calls : List Call) (terminus : Terminus)
    → KeepAll lines (map record_table (map call_record calls ++ (of.Terminus terminus ∷ []))) → Way lines calls terminus
way [] [] terminus k = absurd k
way (line ∷ []) [] terminus k = record { front = []; last = line; is = refl; spelled = All-nil SpellsSomeCall; called = refl; ended = k.0 }
way (line ∷ next ∷ lines) [] terminus k = absurd k.2
way [] (call ∷ calls) terminus k = absurd k
way (line ∷ lines) (call ∷ calls) terminus k =
    let w = way lines calls terminus k.2 in
    let here = call_in-spells line call k.0 in
    record {
      front = line ∷ w.front;
      last = w.last;
      is = ap (λ l. line ∷ l) w.is;
      spelled = All-cons SpellsSomeCall line w.front (call, k.0) w.spelled;
      called = rw (here, w.called);
      ended = w.ended;
    }

-- what stands in the lines of a journey
pub record Journey (lines : List (List ℕ)) (origin : Origin) (calls : List Call) (terminus : Terminus) : Type 0 where
  pub longer : 1 < length lines
  pub begun : SpellsRecord (get_or lines 0 []) (of.Origin origin)
  pub spelled : All SpellsSomeCall (slice_range lines 1 (length lines - 1))
  pub called : map call_in (slice_range lines 1 (length lines - 1)) ≡ calls
  pub ended : SpellsRecord (get_or lines (length lines - 1) []) (of.Terminus terminus)

-- the lines between the first and the last
between : (first last : List ℕ) (front : List (List ℕ))
    → slice_range (first ∷ (front ++ last ∷ [])) 1 (length (first ∷ (front ++ last ∷ [])) - 1) ≡ front
between first last front =
    let n : length (first ∷ (front ++ last ∷ [])) - 1 - 1 ≡ length front = omega (arith, length-append front (last ∷ [])) in
    ap (λ m. take m (front ++ last ∷ [])) n ∙ take-append_seam front (last ∷ [])

-- and the last
at_end : (first last : List ℕ) (front : List (List ℕ))
    → get_or (first ∷ (front ++ last ∷ [])) (length (first ∷ (front ++ last ∷ [])) - 1) [] ≡ last
at_end first last front =
    let n : length (first ∷ (front ++ last ∷ [])) - 1 ≡ suc (length front) = omega (arith, length-append front (last ∷ [])) in
    ap (λ m. get_or (first ∷ (front ++ last ∷ [])) m []) n ∙ get_or-append_seam front last [] []

journey_of : (lines : List (List ℕ)) (origin : Origin) (calls : List Call) (terminus : Terminus)
    → KeepAll lines (map record_table (journey_records origin calls terminus)) → Journey lines origin calls terminus
journey_of [] origin calls terminus k = absurd k
journey_of (first ∷ lines) origin calls terminus k =
    let w = way lines calls terminus k.2 in
    let P : List (List ℕ) → Type 0 = λ l. Journey (first ∷ l) origin calls terminus in
    subst P (sym w.is) (record {
      longer = omega (arith, length-append w.front (w.last ∷ []));
      begun = k.0;
      spelled = subst (All SpellsSomeCall) (sym (between first w.last w.front)) w.spelled;
      called = ap (map call_in) (between first w.last w.front) ∙ w.called;
      ended = subst (λ l. SpellsRecord l (of.Terminus terminus)) (sym (at_end first w.last w.front)) w.ended;
    })

-- what stands in the lines of a body
pub record Kept (lines : List (List ℕ)) (p : BodyParts) : Type 0 where
  pub longer : 2 < length lines
  pub detailed : AllStandIn (get_or lines 0 []) (detail_table p.detail)
  pub marked : is_extra (get_or lines 1 []) ≡ is_some p.extra
  pub further : IfSome p.extra (λ e. SpellsRecord (get_or lines 1 []) (of.Extra e))
  pub way : KeepJourney (journey_in lines) p

module _ (detail : Detail) (origin : Origin) (calls : List Call) (terminus : Terminus) where
  abbrev parts : Option Extra → BodyParts
  parts extra = record { detail = detail; extra = extra; origin = origin; calls = calls; terminus = terminus }

  kept_parts : (lines : List (List ℕ)) (extra : Option Extra) → KeepBody lines (parts extra) → Kept lines (parts extra)
  kept_parts [] None k = absurd k
  kept_parts (l ∷ []) None k = absurd k.2
  kept_parts (l ∷ lo ∷ lines) None k =
      let none : is_extra lo ≡ false = rw k.2.0.0 in
      let there = journey_of (lo ∷ lines) origin calls terminus k.2 in
      record { longer = omega (arith, there.longer); detailed = k.0; marked = none; further = tt; way = rw none k.2 }
  kept_parts [] (Some extra) k = absurd k
  kept_parts (l ∷ []) (Some extra) k = absurd k.2
  kept_parts (l ∷ bx ∷ lines) (Some extra) k =
      let some : is_extra bx ≡ true = rw k.2.0.0 in
      let there = journey_of lines origin calls terminus k.2.2 in
      record { longer = omega (arith, there.longer); detailed = k.0; marked = some; further = k.2.0; way = rw some k.2.2 }

pub kept : (lines : List (List ℕ)) (p : BodyParts) → KeepBody lines p → Kept lines p
kept lines p k = kept_parts p.detail p.origin p.calls p.terminus lines p.extra k

-- the detail stands in the first line, which is its plain line
pub first_line : (lines : BodyLines) → KeepSomeBody lines
    → (2 < length lines) × (get_or lines 0 [] ≡ plain_line (detail_table (detail_of lines)))
first_line lines (p, k) =
    let h = kept lines p k in (
      h.longer,
      first lines p k ∙ ap (λ (d : Detail). plain_line (detail_table d)) (sym (detail_in-stands (get_or lines 0 []) p.detail h.detailed)),
    )
  where
    first : (lines : List (List ℕ)) (p : BodyParts) → KeepBody lines p → get_or lines 0 [] ≡ plain_line (detail_table p.detail)
    first [] p k = absurd k
    first (line ∷ lines) p k = k.1

same_parts : (p q : BodyParts) → p.detail ≡ q.detail → p.extra ≡ q.extra → p.origin ≡ q.origin → p.calls ≡ q.calls
    → p.terminus ≡ q.terminus → p ≡ q
same_parts p q detail extra origin calls terminus =
    ap (λ (v : Detail × Option Extra × Origin × List Call × Terminus).
    let it : BodyParts = record { detail = v.0; extra = v.1; origin = v.2; calls = v.3; terminus = v.4 } in it)
    (let values : ◌≡◌ {A = Detail × Option Extra × Origin × List Call × Terminus}
    (p.detail, p.extra, p.origin, p.calls, p.terminus) (q.detail, q.extra, q.origin, q.calls, q.terminus) = cc in values)

-- the parts that lines keep are those that stand in them
module _ (detail : Detail) (origin : Origin) (calls : List Call) (terminus : Terminus) where
  stand_in : (lines : BodyLines) (extra : Option Extra) → KeepBody lines (parts detail origin calls terminus extra)
      → parts_in lines ≡ parts detail origin calls terminus extra
  stand_in lines extra k =
      let h = kept lines (parts detail origin calls terminus extra) k in
      let there = journey_of (journey_in lines) origin calls terminus h.way in
      same_parts (parts_in lines) (parts detail origin calls terminus extra)
      (detail_in-stands (get_or lines 0 []) detail h.detailed)
      (extra_found (get_or lines 1 []) extra h.marked h.further)
      (origin_in-spells (get_or (journey_in lines) 0 []) origin there.begun)
      there.called
      (terminus_in-spells (get_or (journey_in lines) (length (journey_in lines) - 1) []) terminus there.ended)
    where
      extra_found : (line : List ℕ) (extra : Option Extra) → is_extra line ≡ is_some extra
          → IfSome extra (λ e. SpellsRecord line (of.Extra e)) → cond (is_extra line) (Some (extra_in line)) None ≡ extra
      extra_found line None marked further = rw marked
      extra_found line (Some e) marked further = rw marked (ap Some (extra_in-spells line e further))

pub parts_in-keeps : (lines : BodyLines) (p : BodyParts) → KeepBody lines p → parts_in lines ≡ p
parts_in-keeps lines p k = stand_in p.detail p.origin p.calls p.terminus lines p.extra k

pub keeps_parts_in : (lines : BodyLines) → KeepSomeBody lines → KeepBody lines (parts_in lines)
keeps_parts_in lines (p, k) = subst (KeepBody lines) (sym (parts_in-keeps lines p k)) k

-- a body is the body of the parts that stand in it
pub body_of-parts_in : (lines : BodyLines) → KeepSomeBody lines → lines ≡ body_of (parts_in lines)
body_of-parts_in lines h =
    let p = parts_in lines in kept_plain lines (body_tables p.detail (body_records p)) (keeps_parts_in lines h)

-- bodies are equal where their parts are
pub equal_parts : (a b : BodyLines) → KeepSomeBody a → KeepSomeBody b → (a ≡ b) ↔ (parts_in a ≡ parts_in b)
equal_parts a b one other = (λ e. ap parts_in e, λ e. body_of-parts_in a one ∙ ap body_of e ∙ sym (body_of-parts_in b other))

-- the journey that stands in the lines of a body
pub some_journey : (lines : BodyLines) → KeepSomeBody lines
    → let p = parts_in lines in Journey (journey_in lines) p.origin p.calls p.terminus
some_journey lines h =
    let p = parts_in lines in
    journey_of (journey_in lines) p.origin p.calls p.terminus (kept lines p (keeps_parts_in lines h)).way

-- the BX that stands in the second line is read from it, and none from another line
pub extra_read : (lines : BodyLines) (line : List ℕ) (result : Result Extra Refusal) → KeepSomeBody lines → line ≡ get_or lines 1 []
    → IsJudged (extra_refusal line) (SpellsExtra line) result → ((e : Extra) → SpellsExtra line e → result ≡ Ok e)
    → result_ok result ≡ (parts_in lines).extra
extra_read lines line result (p, k) is judged only =
    let h = kept lines p k in
    let back = sym is in
    at line p.extra result (subst (λ l. is_extra l ≡ is_some p.extra) back h.marked)
    (subst (λ l. IfSome p.extra (λ e. SpellsRecord l (of.Extra e))) back h.further) judged only
    ∙ ap (λ l. cond (is_extra l) (Some (extra_in l)) None) is
  where
    at : (line : List ℕ) (extra : Option Extra) (result : Result Extra Refusal) → is_extra line ≡ is_some extra
        → IfSome extra (λ e. SpellsRecord line (of.Extra e)) → IsJudged (extra_refusal line) (SpellsExtra line) result
        → ((e : Extra) → SpellsExtra line e → result ≡ Ok e)
        → result_ok result ≡ cond (is_extra line) (Some (extra_in line)) None
    at line (Some e) result marked further judged only =
        rw marked (ap result_ok (only e further) ∙ ap Some (sym (extra_in-spells line e further)))
    at line None (Ok e) marked further judged only =
        let there : is_extra line ≡ true = rw judged.1.0 in
        absurd (cc)
    at line None (Err why) marked further judged only = rw marked refl
