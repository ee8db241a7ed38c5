-- What is kept once for each class.
--   of      what is kept for a class
--   both    both together
--   none    nothing in either
--   plus    class by class
--   minus   class by class, not below 0
--   more    the same with so much more in one class
-- Assumes nothing.
use Rattle.std.specs.Prelude.{ℕ, ◌+◌, ◌-◌}
use Rattle.book.specs.declared.class.ByClass.{ByClass}
use Rattle.book.specs.declared.class.Class.{Class}
use Rattle.book.specs.declared.class.Class.TheVariants.{Delivery, Availability}

abbrev pub by_class : ℕ → ℕ → ByClass
by_class delivery availability = record { delivery = delivery; availability = availability }

abbrev pub of : Class → ByClass → ℕ
of Delivery pair = pair.delivery
of Availability pair = pair.availability

abbrev pub both : ByClass → ℕ
both pair = pair.delivery + pair.availability

abbrev pub none : ByClass
none = by_class 0 0

abbrev pub plus : ByClass → ByClass → ByClass
plus a b = by_class (a.delivery + b.delivery) (a.availability + b.availability)

abbrev pub minus : ByClass → ByClass → ByClass
minus a b = by_class (a.delivery - b.delivery) (a.availability - b.availability)

abbrev pub more : Class → ℕ → ByClass → ByClass
more Delivery cents pair = by_class (pair.delivery + cents) pair.availability
more Availability cents pair = by_class pair.delivery (pair.availability + cents)
