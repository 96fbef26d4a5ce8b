-- What is written of a run is the text of its record.
use Rattle.cif_canon.proofs.Names.{BodyLines, HasRecord, IsRunOf, List, None, Permanent, Run, Schedule, Some, Terms, ap, arith, get_or}
use Rattle.cif_canon.proofs.Names.{length, length-map, map, option_and_then, option_and_then_some, option_map, record_at, record_of, refl}
use Rattle.cif_canon.proofs.Names.{run_text, schedule_entries, schedule_entry, slice_get, slice_get_read, slice_get_within, sym, terms_at}
use Rattle.cif_canon.proofs.Names.{text_if, ℕ, ◌<◌, ◌∙◌, ◌≡◌}
use Rattle.cif_canon.specs.Steps.Texts.{body_at}

-- the record of a run whose source is an entry with a body
pub record-of_entry : {K B : Type 0} (entries : List (K × Terms B)) (run : Run) (e : K × Terms B) (b : B) →
    slice_get entries run.source ≡ Some e → e.1.body ≡ Some b → record_at entries run ≡ Some (e.0, record_of run b)
record-of_entry {K} {B} entries run e b at body =
    ap (option_and_then (λ (e : K × Terms B). option_map (λ b. (e.0, record_of run b)) e.1.body)) at
    ∙ ap (option_map (λ b. (e.0, record_of run b))) body

pub record-of_run : {K B : Type 0} (entries : List (K × Terms B)) (run : Run) (e : K × Permanent B) → IsRunOf entries run e →
    record_at entries run ≡ Some e
record-of_run {K} {B} entries run e h =
    record-of_entry entries run (e.0, h.terms) e.1.body h.at h.body
    ∙ ap (λ (r : Permanent B). Some (e.0, r)) (sym h.dates)

-- the source of a run with a record is a position
pub record-within : {X K B : Type 0} (entry : X → K × Terms B) (xs : List X) (run : Run) → HasRecord (map entry xs) run →
    run.source < length xs
record-within {X} {K} {B} entry xs run h =
    option_and_then_some (λ (e : K × Terms B). option_map (λ b. (e.0, record_of run b)) e.1.body) (slice_get (map entry xs) run.source) h.it
    h.is (λ e at is. let below = slice_get_within (map entry xs) run.source e at in let same = length-map xs entry in
    (omega (arith, below, same)))

-- the text of a run, by the value that stands at its source
pub run-text : {X K B : Type 0} (entry : X → K × Terms B) (xs : List X) (run : Run) (x : X) (b : B)
    (text : K × Permanent B → List ℕ) → HasRecord (map entry xs) run → x ≡ get_or xs run.source x → (entry x).1.body ≡ Some b →
    text_if text (record_at (map entry xs) run) ≡ text ((entry x).0, record_of run b)
run-text entry xs run x b text h is body =
    ap (text_if text)
    (record-of_entry (map entry xs) run (entry x) b (terms_at entry xs run.source x (record-within entry xs run h) is) body)

-- the value that stands at the source of a run with a record has a body
pub has-body : {X K B : Type 0} (entry : X → K × Terms B) (xs : List X) (run : Run) (x : X) → HasRecord (map entry xs) run →
    x ≡ get_or xs run.source x → (entry x).1.body ≡ None → ⊥
has-body {X} {K} {B} entry xs run x h is none =
    let e : record_at (map entry xs) run ≡ None =
    ap (option_and_then (λ (e : K × Terms B). option_map (λ b. (e.0, record_of run b)) e.1.body))
    (terms_at entry xs run.source x (record-within entry xs run h) is)
    ∙ ap (option_map (λ b. ((entry x).0, record_of run b))) none in
    let it = h.is in
    cc

-- the body of the schedule that stands at a position
pub body-of : (schedules : List Schedule) (n : ℕ) (s : Schedule) → n < length schedules → s ≡ get_or schedules n s →
    body_at schedules n ≡ s.body
body-of schedules n s within is =
    ap (option_and_then (λ (s : Schedule). s.body)) (slice_get_read schedules (length schedules) n s refl within is)

-- the text of a run, by the schedule at its source and its body
pub schedule-text : (text : List ℕ × Permanent BodyLines → List ℕ) (schedules : List Schedule) (run : Run) (s : Schedule) (b : BodyLines) →
    HasRecord (schedule_entries schedules) run → s ≡ get_or schedules run.source s → body_at schedules run.source ≡ Some b →
    run_text text (schedule_entries schedules) run ≡ text (s.uid, record_of run b)
schedule-text text schedules run s b h is body =
    run-text schedule_entry schedules run s b text h is
    (sym (body-of schedules run.source s (record-within schedule_entry schedules run h) is) ∙ body)
