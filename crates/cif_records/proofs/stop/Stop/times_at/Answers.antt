-- The last three exits of six, and the end: the first reason is found past those checks that went well, which are rewritten one by one.
use Rattle.cif_records.proofs.{Judging.judged_err, Names.stop_refusal}
use Rattle.std.proofs.lemmas.Result.{err_from_is_err_and}
use Rattle.cif_records.proofs.stop.Stop.times_at.Goals as goal

pub returns-in_err-field_or-3 : goal.returns-in_err-field_or-3
unfolding stop_refusal
returns-in_err-field_or-3 c =
    let p = err_from_is_err_and c.from_residual-in_err-field_or-3.result c.from_residual-in_err-field_or-3.ensures.1 in
    judged_err _ _ _ p.0 p.1 (rw (
      c.in_ok-check_letters.ensures.0,
      c.in_ok-field_or.ensures.judged.0,
      c.in_ok-field_or-2.ensures.judged.0,
      c.in_err-field_or-3.ensures.judged,
      p.2,
    ))

pub returns-in_err-field_or-4 : goal.returns-in_err-field_or-4
unfolding stop_refusal
returns-in_err-field_or-4 c =
    let p = err_from_is_err_and c.from_residual-in_err-field_or-4.result c.from_residual-in_err-field_or-4.ensures.1 in
    judged_err _ _ _ p.0 p.1 (rw (
      c.in_ok-check_letters.ensures.0,
      c.in_ok-field_or.ensures.judged.0,
      c.in_ok-field_or-2.ensures.judged.0,
      c.in_ok-field_or-3.ensures.judged.0,
      c.in_err-field_or-4.ensures.judged,
      p.2,
    ))

pub returns-in_err-field_or-5 : goal.returns-in_err-field_or-5
unfolding stop_refusal
returns-in_err-field_or-5 c =
    let p = err_from_is_err_and c.from_residual-in_err-field_or-5.result c.from_residual-in_err-field_or-5.ensures.1 in
    judged_err _ _ _ p.0 p.1 (rw (
      c.in_ok-check_letters.ensures.0,
      c.in_ok-field_or.ensures.judged.0,
      c.in_ok-field_or-2.ensures.judged.0,
      c.in_ok-field_or-3.ensures.judged.0,
      c.in_ok-field_or-4.ensures.judged.0,
      c.in_err-field_or-5.ensures.judged,
      p.2,
    ))

pub returns : goal.returns
unfolding stop_refusal
returns c =
    let identity = c.in_ok-check_letters.ensures in
    let arrival = c.in_ok-field_or.ensures.judged in
    let departure = c.in_ok-field_or-2.ensures.judged in
    let pass = c.in_ok-field_or-3.ensures.judged in
    let public_arrival = c.in_ok-field_or-4.ensures.judged in
    let public_departure = c.in_ok-field_or-5.ensures.judged in (
      rw (identity.0, arrival.0, departure.0, pass.0, public_arrival.0, public_departure.0),
      (identity.1, arrival.1, departure.1, pass.1, public_arrival.1, public_departure.1),
    )
