-- What is untouched, and then what is put last.
use Rattle.cif_feed.proofs.Names.{AreLast, SaysThere, ap, at_keys, changes_of, eq_by_cmp_equiv, get, is_some, map, not, on_equiv, put_last}
use Rattle.cif_feed.proofs.Names.{refusals, reverse, reverse-reverse, same_by, subst, sym, untouched, with_keys, ◌++◌, ◌∙◌, ◌≡◌}
use Rattle.cif_feed.proofs.{ChangeLaws.after_all-untouched, ChangeLaws.reported_by_rank, ChangeSteps.last-some, ChangeSteps.untouched-keys}
use Rattle.cif_feed.proofs.changes.apply.Goals as goal

pub returns-clause-records : goal.returns-clause-records
returns-clause-records g c =
    let cmp = g.R.Rank.Ord.cmp in
    let rank = g.R.Keyed.rank in
    let same = same_by cmp rank in
    let key = g.R.Keyed.key in
    let xs = c.args.changes.items in
    let records = c.args.records.now.items in
    let changes = changes_of key xs in
    let known = at_keys rank (get cmp c.in_ok-last.last) in
    let test = λ (r : g.row.R.Denot). is_some (get cmp c.in_ok-last.last (rank (key r))) in
    let last = subst (λ l. AreLast same (changes_of key l) known) c.as_slice.ensures.value c.in_ok-last.ensures in
    let back : reverse c.reverse.new.self.items ≡ xs = ap reverse c.reverse.ensures.items ∙ reverse-reverse xs in
    let taken : with_keys key c.take_out.new.records.items ≡ untouched same (with_keys key records) changes =
    (ap (with_keys key)
    (c.take_out.ensures test (c.as_slice-4.ensures.value ∙ c.in_ok-there.ensures.changed ∙ ap (map test) c.as_slice-2.ensures.value))
    ∙ untouched-keys key same changes (λ (r : g.row.R.Denot). not (test r))
    (λ r. ap not (ap is_some (last.are (key r))
    ∙ last-some same (on_equiv rank (eq_by_cmp_equiv g.met.R.Rank.Ord.total)) 0 changes (key r)))
    records) in
    record {
      same = same;
      tells = reported_by_rank g.R.Rank.PartialEq.eq cmp rank g.met.R.Rank.Ord.matches_eq g.met.R.Keyed.same_key;
      after = c.in_ok-put_last.ensures (subst (λ l. AreLast same (changes_of key l) known) (sym back) last)
          ∙ ap (λ l. with_keys key c.take_out.new.records.items ++ put_last same (changes_of key l)) back
          ∙ ap (λ l. l ++ put_last same changes) taken ∙ sym (after_all-untouched same (with_keys key records) changes);
    }

pub returns-clause-refused : goal.returns-clause-refused
returns-clause-refused g c =
    let cmp = g.R.Rank.Ord.cmp in
    let rank = g.R.Keyed.rank in
    let same = same_by cmp rank in
    let key = g.R.Keyed.key in
    let changes = changes_of key c.args.changes.items in
    let records = with_keys key c.args.records.now.items in
    let known = at_keys rank (get cmp c.in_ok-last.last) in
    let found = at_keys rank (get cmp c.in_ok-there.there) in
    let last = subst (λ l. AreLast same (changes_of key l) known) c.as_slice.ensures.value c.in_ok-last.ensures in
    let there = subst (λ l. SaysThere same (with_keys key l) changes found) c.as_slice-2.ensures.value
    (c.in_ok-there.ensures.there changes last) in
    record {
      same = same;
      tells = reported_by_rank g.R.Rank.PartialEq.eq cmp rank g.met.R.Rank.Ord.matches_eq g.met.R.Keyed.same_key;
      are = subst (λ l. c.in_ok-refused.refused.items ≡ refusals same records (changes_of key l)) c.as_slice-3.ensures.value
          (c.in_ok-refused.ensures records
          (subst (λ l. SaysThere same records (changes_of key l) found) (sym c.as_slice-3.ensures.value) there));
    }
