-- The public calls that are made of a schedule's lines are those by the definition.
use Rattle.cif_views.proofs.Names.{AreMoments, ArePublicCalls, AreShown, Bool, CallTimes, Change, IfSome, IsBehind, IsInDayFrom, IsNone}
use Rattle.cif_views.proofs.Names.{Journey, JourneyKind, List, None, Numbered, Option, Other, PublicCall, ScheduleLines, Shown, Some, Stop}
use Rattle.cif_views.proofs.Names.{TimedCall, [], advertised, and-false, and_parts, ap, arith, at_first, behind_shown, behind_stay, columns}
use Rattle.cif_views.proofs.Names.{cond, false, false≢true, filter, if◌then◌else◌, in_day_from, is_call, is_public, is_some, is_timed}
use Rattle.cif_views.proofs.Names.{kind_of_line, left_at, ltb-true, map, max, nat_lt, numbered_from, option_and_then, option_map}
use Rattle.cif_views.proofs.Names.{public_call, public_calls, public_from, public_moment, raised, reached_at, reached_moment, refl}
use Rattle.cif_views.proofs.Names.{riders_of, slice_index, stay, stay_at, suc, sym, times_in, true, working, zero, ℕ, ◌&&◌, ◌*◌, ◌++◌, ◌+◌}
use Rattle.cif_views.proofs.Names.{◌-◌, ◌<◌, ◌==◌, ◌||◌, ◌∙◌, ◌∷◌, ◌≡◌, ◌≤◌}
use Rattle.std.specs.Option.{option_or}
use Rattle.cif_columns.specs.{Clock.clock_seconds, Clock.seconds_to, Digits.number_at, WorkTime.work_seconds, WorkTime.work_time_in}
use Rattle.cif_columns.specs.PublicTime.{public_seconds, public_time_in, unless_midnight}
use Rattle.cif_views.{specs.Steps.PublicCalls.shown_at, specs.declared.columns.JourneyKind.TheVariants.Origin}
use Rattle.cif_views.{specs.declared.columns.JourneyKind.TheVariants.Terminus, specs.declared.public_calls.Stay.Stay}

-- a moment in the day that begins at one
pub in-day : (from seconds : ℕ) → seconds < 86400 → IsInDayFrom from seconds (in_day_from from seconds)
in-day from seconds within = record {
  time_of_day = omega (arith, within);
  not_before = omega (arith, within);
  within = omega (arith, within);
}

-- a time of day that is read is one
within-if : (test : Bool) (hour minute : ℕ) → nat_lt hour 24 && nat_lt minute 60 ≡ test →
    IfSome (if test then Some (hour * 3600 + minute * 60) else None) (λ seconds. seconds ≤ 86340)
within-if true hour minute is =
    let (of_hour, of_minute) = and_parts (nat_lt hour 24) (nat_lt minute 60) is in
    let upto = ltb-true hour 24 of_hour in
    let below = ltb-true minute 60 of_minute in
    omega (arith, upto, below)
within-if false hour minute is = tt {0}

seconds-within : (hour minute : Option ℕ) → IfSome (seconds_to hour minute) (λ seconds. seconds ≤ 86340)
seconds-within (Some hour) (Some minute) = within-if _ hour minute refl
seconds-within (Some hour) None = tt {0}
seconds-within None minute = tt {0}

more-within : (half : ℕ) → half ≤ 30 → (seconds : Option ℕ) → IfSome seconds (λ s. s ≤ 86340) →
    IfSome (option_map (λ s. s + half) seconds) (λ s. s < 86400)
more-within half upto None is = tt {0}
more-within half upto (Some s) is = omega (arith, upto, is)

half-upto : (test : Bool) → (if test then 30 else 0) ≤ 30
half-upto true = omega arith
half-upto false = omega arith

work-within : (columns : List ℕ) → IfSome (work_seconds columns) (λ s. s < 86400)
work-within columns =
    more-within (if slice_index columns 4 == 72 then 30 else 0) (half-upto (slice_index columns 4 == 72)) (clock_seconds columns)
    (seconds-within (number_at 0 columns) (number_at 2 columns))

of-read : (read : Option (List ℕ)) (seconds : List ℕ → Option ℕ) → ((columns : List ℕ) → IfSome (seconds columns) (λ s. s < 86400)) →
    IfSome (option_and_then seconds read) (λ s. s < 86400)
of-read None seconds each = tt {0}
of-read (Some columns) seconds each = each columns

pub working-within : (columns : List ℕ) → IfSome (working columns) (λ s. s < 86400)
working-within columns = of-read (work_time_in columns) work_seconds work-within

not-midnight : (seconds : Option ℕ) → IfSome seconds (λ s. s ≤ 86340) → IfSome (unless_midnight seconds) (λ s. s < 86400)
not-midnight None is = tt {0}
not-midnight (Some zero) is = tt {0}
not-midnight (Some (suc s)) is = omega (arith, is)

public-within : (columns : List ℕ) → IfSome (public_seconds columns) (λ s. s < 86400)
public-within columns = not-midnight (clock_seconds columns) (seconds-within (number_at 0 columns) (number_at 2 columns))

pub advertised-within : (columns : List ℕ) → IfSome (advertised columns) (λ s. s < 86400)
advertised-within columns = of-read (public_time_in columns) public_seconds public-within

-- the times of a call are times of day
pub record AreWithin (t : CallTimes) : Type 0 where
  pub arrival : IfSome t.arrival (λ s. s < 86400)
  pub pass : IfSome t.pass (λ s. s < 86400)
  pub departure : IfSome t.departure (λ s. s < 86400)
  pub public_arrival : IfSome t.public_arrival (λ s. s < 86400)
  pub public_departure : IfSome t.public_departure (λ s. s < 86400)

times-within : (kind : JourneyKind) (line : List ℕ) → AreWithin (times_in kind line)
times-within Origin line = record {
  arrival = tt {0};
  pass = tt {0};
  departure = working-within (columns 11 15 line);
  public_arrival = tt {0};
  public_departure = advertised-within (columns 16 19 line);
}
times-within Stop line = record {
  arrival = working-within (columns 11 15 line);
  pass = working-within (columns 21 25 line);
  departure = working-within (columns 16 20 line);
  public_arrival = advertised-within (columns 26 29 line);
  public_departure = advertised-within (columns 30 33 line);
}
times-within Terminus line = record {
  arrival = working-within (columns 11 15 line);
  pass = tt {0};
  departure = tt {0};
  public_arrival = advertised-within (columns 16 19 line);
  public_departure = tt {0};
}
times-within Change line =
    record { arrival = tt {0}; pass = tt {0}; departure = tt {0}; public_arrival = tt {0}; public_departure = tt {0} }
times-within Other line = record { arrival = tt {0}; pass = tt {0}; departure = tt {0}; public_arrival = tt {0}; public_departure = tt {0} }

either-within : (a b : Option ℕ) → IfSome a (λ s. s < 86400) → IfSome b (λ s. s < 86400) → IfSome (option_or a b) (λ s. s < 86400)
either-within (Some a) b one other = one
either-within None b one other = other

reached-within : (t : CallTimes) → AreWithin t → IfSome (reached_at t) (λ s. s < 86400)
reached-within t w = either-within _ _ w.arrival (either-within _ _ w.pass w.departure)

left-within : (t : CallTimes) → AreWithin t → IfSome (left_at t) (λ s. s < 86400)
left-within t w = either-within _ _ w.departure (either-within _ _ w.pass w.arrival)

-- a call that is reached is left, and only calls are
some-alike : (a p d : Option ℕ) → is_some (option_or a (option_or p d)) ≡ is_some (option_or d (option_or p a))
some-alike (Some a) (Some p) (Some d) = refl
some-alike (Some a) (Some p) None = refl
some-alike (Some a) None (Some d) = refl
some-alike (Some a) None None = refl
some-alike None (Some p) (Some d) = refl
some-alike None (Some p) None = refl
some-alike None None (Some d) = refl
some-alike None None None = refl

only-calls : (kind : JourneyKind) (line : List ℕ) → is_some (reached_at (times_in kind line)) ≡ true → is_call kind ≡ true
only-calls Origin line some = refl
only-calls Stop line some = refl
only-calls Terminus line some = refl
only-calls Change line some = some
only-calls Other line some = some

-- the next moment behind one
next-behind : (before : Option ℕ) (seconds : ℕ) → seconds < 86400 → IsBehind before seconds (reached_moment before seconds)
next-behind None seconds within = refl
next-behind (Some p) seconds within = in-day (p - 3600) seconds within

-- the call at c, which is reached and left at these moments
abbrev pub timed_at : Numbered → Stay → TimedCall
timed_at c at = record { call = c; reached = at.reached; left = at.left }

-- what a stay says of the call's times
pub record IsStay (before : Option ℕ) (reached left : Option ℕ) (at : Stay) : Type 0 where
  pub timed : is_some reached ≡ true
  pub reached_is : IfSome reached (λ seconds. IsBehind before seconds at.reached)
  pub left_is : IfSome left (λ seconds. IsInDayFrom (at.reached - 3600) seconds at.left)

abbrev pub StaySays : Option ℕ → Option ℕ → Option ℕ → Option Stay → Type 0
StaySays before reached left None = is_some reached ≡ false
StaySays before reached left (Some at) = IsStay before reached left at

stay-says : (before reached left : Option ℕ) → is_some reached ≡ is_some left → IfSome reached (λ s. s < 86400) →
    IfSome left (λ s. s < 86400) → StaySays before reached left (stay_at before reached left)
stay-says before (Some reached) (Some left) alike one other = record {
  timed = refl;
  reached_is = next-behind before reached one;
  left_is = in-day (reached_moment before reached - 3600) left other;
}
stay-says before (Some reached) None alike one other = alike
stay-says before None (Some left) alike one other = refl
stay-says before None None alike one other = refl

-- what public times say of the moments that are shown
pub record AreTimes (reached left : ℕ) (public_arrival public_departure : Option ℕ) (arrival departure : ℕ) : Type 0 where
  pub some : is_some public_arrival || is_some public_departure ≡ true
  pub arrival_is : IfSome public_arrival (λ seconds. IsInDayFrom (reached - 43200) seconds arrival)
  pub departure_is : IfSome public_departure (λ seconds. IsInDayFrom (left - 43200) seconds departure)
  pub no_arrival : IsNone public_arrival → arrival ≡ departure
  pub no_departure : IsNone public_departure → departure ≡ arrival

pub record AreRaised (before reached left : ℕ) (public_arrival public_departure : Option ℕ) (p : Shown) : Type 0 where
  pub arrival : ℕ
  pub departure : ℕ
  pub times : AreTimes reached left public_arrival public_departure arrival departure
  pub arrival_is : p.arrival ≡ max before arrival
  pub departure_is : p.departure ≡ max p.arrival departure

abbrev pub ShownSays : ℕ → Stay → Option ℕ → Option ℕ → Option Shown → Type 0
ShownSays before at arrival departure None = is_some arrival || is_some departure ≡ false
ShownSays before at arrival departure (Some p) = AreRaised before at.reached at.left arrival departure p

shown-says : (before : ℕ) (at : Stay) (arrival departure : Option ℕ) → IfSome arrival (λ s. s < 86400) →
    IfSome departure (λ s. s < 86400) → ShownSays before at arrival departure (shown_at before at arrival departure)
shown-says before at (Some arrival) (Some departure) one other = record {
  arrival = public_moment at.reached arrival;
  departure = public_moment at.left departure;
  times = record {
    some = refl;
    arrival_is = in-day (at.reached - 43200) arrival one;
    departure_is = in-day (at.left - 43200) departure other;
    no_arrival = λ none. absurd (false≢true (sym none));
    no_departure = λ none. absurd (false≢true (sym none));
  };
  arrival_is = refl;
  departure_is = refl;
}
shown-says before at (Some arrival) None one other = record {
  arrival = public_moment at.reached arrival;
  departure = public_moment at.reached arrival;
  times = record {
    some = refl;
    arrival_is = in-day (at.reached - 43200) arrival one;
    departure_is = tt {0};
    no_arrival = λ none. absurd (false≢true (sym none));
    no_departure = λ none. refl;
  };
  arrival_is = refl;
  departure_is = refl;
}
shown-says before at None (Some departure) one other = record {
  arrival = public_moment at.left departure;
  departure = public_moment at.left departure;
  times = record {
    some = refl;
    arrival_is = tt {0};
    departure_is = in-day (at.left - 43200) departure other;
    no_arrival = λ none. refl;
    no_departure = λ none. absurd (false≢true (sym none));
  };
  arrival_is = refl;
  departure_is = refl;
}
shown-says before at None None one other = refl

-- the calls among lines, and those that are timed
abbrev pub timed_calls : List Numbered → List Numbered
timed_calls lines = filter is_timed (filter (λ p. is_call (kind_of_line p.line)) lines)

untimed : (call : Bool) (c : Numbered) (rest : List Numbered) → is_timed c ≡ false →
    filter is_timed (cond call (c ∷ rest) rest) ≡ filter is_timed rest
untimed true c rest e = ap (λ t. cond t (c ∷ filter is_timed rest) (filter is_timed rest)) e
untimed false c rest e = refl

timed-first : (call : Bool) (c : Numbered) (rest : List Numbered) → call ≡ true → is_timed c ≡ true →
    filter is_timed (cond call (c ∷ rest) rest) ≡ c ∷ filter is_timed rest
timed-first call c rest is e =
    ap (λ b. filter is_timed (cond b (c ∷ rest) rest)) is ∙ ap (λ t. cond t (c ∷ filter is_timed rest) (filter is_timed rest)) e

-- the public calls of lines are those of their timed calls
pub record Says (j : Journey) (lines : List Numbered) (shown : List PublicCall) : Type 0 where
  pub timed : List TimedCall
  pub calls : map (λ t. t.call) timed ≡ timed_calls lines
  pub moments : AreMoments j.left timed
  pub are_shown : AreShown j.shown (filter is_public timed) shown

module _ (j : Journey) (c : Numbered) (lines : List Numbered) (more : (next : Journey) → Says next lines (public_from next lines)) where
  abbrev pub kind : JourneyKind
  kind = kind_of_line c.line

  abbrev pub times : CallTimes
  times = times_in kind c.line

  -- what is shown behind a timed call
  abbrev pub after : Stay → Option Shown → List PublicCall
  after at shown = public_call c (behind_shown j at shown).1 ++ public_from (behind_shown j at shown).0 lines

  calls-of : (at : Stay) → is_timed c ≡ true → (timed : List TimedCall) → map (λ t. t.call) timed ≡ timed_calls lines →
      map (λ t. t.call) (timed_at c at ∷ timed) ≡ timed_calls (c ∷ lines)
  calls-of at is timed calls =
      ap (λ (cs : List Numbered). c ∷ cs) calls
      ∙ sym (timed-first (is_call kind) c (filter (λ p. is_call (kind_of_line p.line)) lines) (only-calls kind c.line is) is)

  -- a call that isn't public
  hidden : (at : Stay) → IsStay j.left (reached_at times) (left_at times) at → is_public (timed_at c at) ≡ false →
      Says j (c ∷ lines) (after at None)
  hidden at is hides =
      let next = more (record { left = Some at.left; shown = j.shown }) in
      record {
        timed = timed_at c at ∷ next.timed;
        calls = calls-of at is.timed next.timed next.calls;
        moments = (record { reached = is.reached_is; left = is.left_is }, next.moments);
        are_shown = rw hides next.are_shown;
      }

  -- and one that is
  shows : (at : Stay) (p : Shown) → IsStay j.left (reached_at times) (left_at times) at → is_public (timed_at c at) ≡ true →
      AreRaised j.shown at.reached at.left times.public_arrival times.public_departure p → Says j (c ∷ lines) (after at (Some p))
  shows at p is public raised =
      let next = more (record { left = Some at.left; shown = p.departure }) in
      record {
        timed = timed_at c at ∷ next.timed;
        calls = calls-of at is.timed next.timed next.calls;
        moments = (record { reached = is.reached_is; left = is.left_is }, next.moments);
        are_shown = rw public (
          record {
            arrival = raised.arrival;
            departure = raised.departure;
            times = record {
              arrival_is = raised.times.arrival_is;
              departure_is = raised.times.departure_is;
              no_arrival = raised.times.no_arrival;
              no_departure = raised.times.no_departure;
            };
            call = refl;
            arrival_is = raised.arrival_is;
            departure_is = raised.departure_is;
          },
          next.are_shown,
        );
      }

  -- by whether it is advertised, and what would be shown
  by-shown : (at : Stay) → IsStay j.left (reached_at times) (left_at times) at → (seen : Bool) →
      (riders_of c.line).advertised ≡ seen → (shown : Option Shown) →
      ShownSays j.shown at times.public_arrival times.public_departure shown → Says j (c ∷ lines) (after at (if seen then shown else None))
  by-shown at is false e shown says =
      let some = is_some times.public_arrival || is_some times.public_departure in
      hidden at is (ap (λ b. some && b) e ∙ and-false some)
  by-shown at is true e None says =
      let some = is_some times.public_arrival || is_some times.public_departure in
      hidden at is (ap (λ b. some && b) e ∙ ap (λ b. b && true) says)
  by-shown at is true e (Some p) says =
      let some = is_some times.public_arrival || is_some times.public_departure in
      shows at p is (ap (λ b. some && b) e ∙ ap (λ b. b && true) says.times.some) says

  pub one-call : (at : Option Stay) → StaySays j.left (reached_at times) (left_at times) at →
      (let next = behind_stay j times (riders_of c.line) at in Says j (c ∷ lines) (public_call c next.1 ++ public_from next.0 lines))
  one-call None is =
      let next = more j in
      record {
        timed = next.timed;
        calls = next.calls ∙ sym (untimed (is_call kind) c (filter (λ p. is_call (kind_of_line p.line)) lines) is);
        moments = next.moments;
        are_shown = next.are_shown;
      }
  one-call (Some at) is =
      let within = times-within kind c.line in
      by-shown at is ((riders_of c.line).advertised) refl
      (shown_at j.shown at times.public_arrival times.public_departure)
      (shown-says j.shown at times.public_arrival times.public_departure within.public_arrival within.public_departure)

says : (j : Journey) (lines : List Numbered) → Says j lines (public_from j lines)
says j [] = record { timed = []; calls = refl; moments = tt {0}; are_shown = tt {0} }
says j (c ∷ lines) =
    let t = times_in (kind_of_line c.line) c.line in
    let within = times-within (kind_of_line c.line) c.line in
    one-call j c lines (λ next. says next lines) (stay j.left t)
    (stay-says j.left (reached_at t) (left_at t) (some-alike t.arrival t.pass t.departure) (reached-within t within) (left-within t within))

pub public-calls-are : (s : ℕ × ScheduleLines) → ArePublicCalls s (public_calls s)
public-calls-are s =
    let said = says at_first (numbered_from s.0 1 s.1.further) in
    record { timed = said.timed; are_timed = record { calls_are = said.calls; moments = said.moments }; are_shown = said.are_shown }
