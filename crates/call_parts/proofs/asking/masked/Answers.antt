use Rattle.std.proofs.Common.{refl}
use Rattle.call_parts.proofs.Masked.{three_digits, masked_is}
use Rattle.call_parts.proofs.asking.masked.Goals as goal

pub returns : goal.returns
returns c =
    let owner = c.without-owner.result in
    let group = c.without-group.result in
    let other = c.without-other.result in
    masked_is c.args.mode c.args.umask _ owner group other c.from_digit.result c.from_digit-2.result c.from_digit-3.result c.from_digit-4.result c.from_digit-5.result c.from_digit-6.result
    (three_digits owner group other _ c.digit.result c.digit-2.result c.digit-3.result c.digit.ensures.value c.digit-2.ensures.value c.digit-3.ensures.value
    c.digit.ensures.below c.digit-2.ensures.below c.digit-3.ensures.below refl)
    c.without-owner.ensures c.from_digit.ensures c.from_digit-2.ensures c.without-group.ensures c.from_digit-3.ensures c.from_digit-4.ensures
    c.without-other.ensures c.from_digit-5.ensures c.from_digit-6.ensures
