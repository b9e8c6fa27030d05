-- The error that a failed conversion to a container becomes.
use Rattle.amqp_data.specs.declared.error.Error.{Error}
use Rattle.amqp_data.specs.declared.error.Error.TheVariants as error
use Rattle.amqp_value.specs.declared.try_from.ConvertFault.{ConvertFault}
use Rattle.amqp_value.specs.declared.try_from.ConvertFault.TheVariants.{Unfit, Memory}

abbrev pub error_of : ConvertFault → Error
error_of (Unfit v) = error.InvalidValue
error_of Memory = error.OutOfMemory
