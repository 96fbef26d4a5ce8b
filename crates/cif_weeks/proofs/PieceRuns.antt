-- The runs of the spans of a calendar's pieces are the calendar's canonical records.
use Rattle.cif_weeks.proofs.Names.{All, AreCanonicalRuns, AreRunsOfSpans, AreSources, AreSpansOn, CalendarParts, Contains, Contains-get_or}
use Rattle.cif_weeks.proofs.Names.{Form, HasDay, IsAgreed, IsRunOf, IsWithin, List, None, Option, Permanent, Run, Shows, Some, Span, Terms}
use Rattle.cif_weeks.proofs.Names.{ap, arith, body_at, body_in, body_on, get_or, letter, map, named, refl, source_at, sym, unwrap_or}
use Rattle.cif_weeks.proofs.Names.{window_of, ℕ, ◌+◌, ◌<◌, ◌∙◌, ◌≡◌}
use Rattle.cif_weeks.proofs.{Forms.made-first, Names.dates_of}
use Rattle.cif_weeks.proofs.{Growth.inside, JoinedLists.zip-map, JoinedLists.zip-with, Meeting.have_form, Meeting.say}
use Rattle.cif_weeks.{proofs.SourcesIn.source_in-within, specs.Steps.BodyRuns.HasBody}
use Rattle.cif_weeks.proofs.SpanRecords.{HaveBodies, IsBodysRun, Shown, in-order, records-of, records-rising}

-- the position of a body, named by what is found
named-body : {B : Type 0} (xs : List (Terms B)) (found : Option ℕ) (source : ℕ) (b : B) → body_at xs found ≡ Some b →
    (found ≡ Some (unwrap_or found source)) × (body_at xs (Some (unwrap_or found source)) ≡ Some b)
named-body xs None source b is = absurd (cc)
named-body xs (Some i) source b is = (refl, is)

module _ {B : Type 0} (xs : List (Terms B)) (c : CalendarParts) (sources : AreSources xs c) (spans : List Span)
    (a : AreSpansOn xs c (λ n. n < c.last + 1) spans) where
  -- the spans' days lie in the window
  pub pieces-inside : (source n : ℕ) → Shows spans source n → IsWithin (window_of c) n
  pieces-inside source n h = let p = a.each h.it h.listed in inside xs c sources p.body n (p.runs n h.on.has)

  bodied : (s : Span) → Contains spans s → HasBody s
  bodied s listed cancelled = let permanent = (a.each s listed).is_permanent in cc

  -- each has a body, and all have one letter
  pub pieces-bodied : All HasBody spans
  pieces-bodied = λ i d below. bodied (get_or spans i d) (Contains-get_or spans i d below)

  pub pieces-level : (s t : Span) → Contains spans s → Contains spans t → s.letter ≡ t.letter
  pieces-level s t in_s in_t = (a.each s in_s).is_permanent ∙ sym (a.each t in_t).is_permanent

  -- the body of a span's source runs on its days
  runs-on : (s : Span) (n : ℕ) → Contains spans s → HasDay s n → body_at xs (Some s.source) ≡ body_in xs c n
  runs-on s n listed on = let p = a.each s listed in p.has ∙ sym (p.runs n on)

  -- so on each day they agree
  pub pieces-agreed : (n : ℕ) → IsAgreed spans n
  pieces-agreed n = record {
    agree = λ s t in_s in_t on_s on_t. a.one_source s t in_s in_t
        (record { reaches = omega (arith, on_s.has.from, on_t.has.upto); reached = omega (arith, on_t.has.from, on_s.has.upto) })
        (runs-on s n in_s on_s.has ∙ sym (runs-on t n in_t on_t.has));
  }

  pieces-have : HaveBodies xs (window_of c) spans
  pieces-have = record {
    inside = pieces-inside;
    has_body = λ s listed b is. bodied s listed;
    body_of = λ s listed has. let p = a.each s listed in (p.body, p.has);
    one_source = a.one_source;
  }

  -- they show what runs by the calendar
  in-window : (n : ℕ) → IsWithin (window_of c) n → body_in xs c n ≡ body_on xs c n
  in-window n within = ap (body_at xs) (source_in-within c n within.from within.upto)

  runs-shown : (n : ℕ) (b : B) → IsWithin (window_of c) n → body_on xs c n ≡ Some b → Shown xs spans (Some b) n
  runs-shown n b within runs =
      let (s, listed, on, is) = a.all n b (omega (arith, within.upto)) (in-window n within ∙ runs) in
      record {
        it = s;
        listed = listed;
        leads = record { has = on; least = λ t in_t on_t. omega (arith, ap letter (pieces-level s t listed in_t)) };
        body_is = is;
      }

  shown-runs : (n : ℕ) (b : B) → IsWithin (window_of c) n → Shown xs spans (Some b) n → body_on xs c n ≡ Some b
  shown-runs n b within s = sym (in-window n within) ∙ sym (runs-on s.it n s.listed s.leads.has) ∙ s.body_is

  module _ (form : Form) (runs : List Run) (are : AreRunsOfSpans form (window_of c) spans runs) where
    first-shown : (run : Run) → Contains runs run → Shows spans run.source run.first
    first-shown run listed = made-first (window_of c) (Shows spans run.source) (dates_of run) form (are.each run listed).made

    -- the runs begin in the window
    first-inside : (run : Run) → Contains runs run → IsWithin (window_of c) run.first
    first-inside run listed = pieces-inside run.source run.first (first-shown run listed)

    pub firsts-inside : All (λ run. IsWithin (window_of c) run.first) runs
    firsts-inside = λ i d below. first-inside (get_or runs i d) (Contains-get_or runs i d below)

    -- with the calendar's source of its first day each run is that of its record
    named-run : (run : Run) (r : Permanent B) → Contains runs run → IsBodysRun xs run r → IsRunOf xs c (named c run) r
    named-run run r listed of =
        let s = first-shown run listed in
        let (source, body) = named-body xs (source_at c.pieces run.first) run.source r.body
        (shown-runs run.first r.body (first-inside run listed) (record {
          it = s.it;
          listed = s.listed;
          leads = s.on;
          body_is = ap (λ v. body_at xs (Some v)) s.is ∙ of.body;
        })) in
        record { dates = of.dates; source = source; body = body }

    pub pieces-canonical : AreCanonicalRuns form xs c (map (named c) runs)
    pieces-canonical =
        let (records, zip) = records-of xs (window_of c) spans pieces-have form runs are in
        let met = in-order xs (window_of c) spans pieces-have form runs are records zip in
        record {
          records = records;
          runs_of = zip-map (named c) (IsRunOf xs c) runs records
              (zip-with (IsBodysRun xs) (λ run r. IsRunOf xs c (named c run) r) runs records named-run zip);
          meets = record {
            rising = records-rising xs (window_of c) spans pieces-have form runs are records zip;
            have_form = have_form form (window_of c) (λ b n. Shown xs spans (Some b) n) records met;
            say = record {
              says = λ n b within.
                  let says = say form (window_of c) (λ b n. Shown xs spans (Some b) n) records met n b within in (
                    λ on. says.0 (runs-shown n b within on),
                    λ has. shown-runs n b within (says.1 has),
                  );
            };
          };
        }
