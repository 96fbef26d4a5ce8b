-- One content too many is refused (`refuses_next`), and a source that fails decides nothing more (`fails_next`).
use Rattle.cif_columns.proofs.Names.{arith, nil_from_length, refl}
use Rattle.cif_columns.proofs.ContentAnswers.{fails_next, refuses_next}
use Rattle.cif_columns.specs.declared.ahead.Most.TheVariants.{Of}
use Rattle.cif_columns.proofs.ahead.ContentReader.next_within.Goals as goal

pub returns-in_default-next : goal.returns-in_default-next
returns-in_default-next g c =
    refuses_next _ _ c.args.most c.args.self.now _ _ _ refl refl _ c.in-Ok.ensures c.in_default-next.not-End c.if-self.true refl

pub returns-in_default : goal.returns-in_default
returns-in_default g c =
    fails_next _ _ c.args.most c.args.self.now _ _ _ refl refl (Of 1) _ c.in_default.ensures refl (λ held none. record {
      no_feed = none.no_feed;
      short = omega (arith, none.short, c.requires.some held);
      none_too_many = λ full. nil_from_length held (omega (arith, none.short));
    })

pub returns-in-Err : goal.returns-in-Err
returns-in-Err g c =
    fails_next _ _ c.args.most c.args.self.now _ _ _ refl refl c.args.most _ c.in-Err.ensures refl (λ held none.
    record { no_feed = none.no_feed; short = none.short; none_too_many = λ full. absurd (c.if-self.false full) })
