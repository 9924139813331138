use Rattle.std.proofs.Common.{refl, ap, arith}
use Rattle.matcher_table.proofs.MadeLaws.{lengthened}
use Rattle.matcher_table.proofs.store.Store.reserve.Goals as goal

pub returns-in_err-reserve-2-clause-stands : goal.returns-in_err-reserve-2-clause-stands
returns-in_err-reserve-2-clause-stands c =
    lengthened c.args.self.now _ c.requires.stands (record {
      slots = ap (λ s. s.slots) c.reserve.ensures.rest_kept;
      index = c.reserve-2.ensures.same;
      order = refl;
      outside_long = omega arith;
      outside = λ s. refl;
      uses_long = omega arith;
      uses = λ s. refl;
      results_long = omega arith;
      results = λ s. refl;
      idle_long = omega arith;
      idle = λ s. refl;
      hanging = refl;
      settled = refl;
      last = refl;
    })

pub returns-in_err-reserve-3-clause-stands : goal.returns-in_err-reserve-3-clause-stands
returns-in_err-reserve-3-clause-stands c =
    lengthened c.args.self.now _ c.requires.stands (record {
      slots = ap (λ s. s.slots) c.reserve.ensures.rest_kept;
      index = c.reserve-2.ensures.same;
      order = c.reserve-3.ensures.items;
      outside_long = omega arith;
      outside = λ s. refl;
      uses_long = omega arith;
      uses = λ s. refl;
      results_long = omega arith;
      results = λ s. refl;
      idle_long = omega arith;
      idle = λ s. refl;
      hanging = refl;
      settled = refl;
      last = refl;
    })

pub returns-in_err-lengthen-clause-stands : goal.returns-in_err-lengthen-clause-stands
returns-in_err-lengthen-clause-stands c =
    lengthened c.args.self.now _ c.requires.stands (record {
      slots = ap (λ s. s.slots) c.reserve.ensures.rest_kept;
      index = c.reserve-2.ensures.same;
      order = c.reserve-3.ensures.items;
      outside_long = c.lengthen.ensures.longer;
      outside = c.lengthen.ensures.same;
      uses_long = omega arith;
      uses = λ s. refl;
      results_long = omega arith;
      results = λ s. refl;
      idle_long = omega arith;
      idle = λ s. refl;
      hanging = refl;
      settled = refl;
      last = refl;
    })

pub returns-in_err-lengthen-2-clause-stands : goal.returns-in_err-lengthen-2-clause-stands
returns-in_err-lengthen-2-clause-stands c =
    lengthened c.args.self.now _ c.requires.stands (record {
      slots = ap (λ s. s.slots) c.reserve.ensures.rest_kept;
      index = c.reserve-2.ensures.same;
      order = c.reserve-3.ensures.items;
      outside_long = c.lengthen.ensures.longer;
      outside = c.lengthen.ensures.same;
      uses_long = c.lengthen-2.ensures.longer;
      uses = c.lengthen-2.ensures.same;
      results_long = omega arith;
      results = λ s. refl;
      idle_long = omega arith;
      idle = λ s. refl;
      hanging = refl;
      settled = refl;
      last = refl;
    })

pub returns-in_err-lengthen_truths-clause-stands : goal.returns-in_err-lengthen_truths-clause-stands
returns-in_err-lengthen_truths-clause-stands c =
    lengthened c.args.self.now _ c.requires.stands (record {
      slots = ap (λ s. s.slots) c.reserve.ensures.rest_kept;
      index = c.reserve-2.ensures.same;
      order = c.reserve-3.ensures.items;
      outside_long = c.lengthen.ensures.longer;
      outside = c.lengthen.ensures.same;
      uses_long = c.lengthen-2.ensures.longer;
      uses = c.lengthen-2.ensures.same;
      results_long = c.lengthen_truths.ensures.longer;
      results = c.lengthen_truths.ensures.same;
      idle_long = omega arith;
      idle = λ s. refl;
      hanging = refl;
      settled = refl;
      last = refl;
    })

pub returns-clause-stands : goal.returns-clause-stands
returns-clause-stands c =
    lengthened c.args.self.now _ c.requires.stands (record {
      slots = ap (λ s. s.slots) c.reserve.ensures.rest_kept;
      index = c.reserve-2.ensures.same;
      order = c.reserve-3.ensures.items;
      outside_long = c.lengthen.ensures.longer;
      outside = c.lengthen.ensures.same;
      uses_long = c.lengthen-2.ensures.longer;
      uses = c.lengthen-2.ensures.same;
      results_long = c.lengthen_truths.ensures.longer;
      results = c.lengthen_truths.ensures.same;
      idle_long = c.lengthen_truths-2.ensures.longer;
      idle = c.lengthen_truths-2.ensures.same;
      hanging = refl;
      settled = refl;
      last = refl;
    })
