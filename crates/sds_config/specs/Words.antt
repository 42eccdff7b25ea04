-- The words of the file, each by its bytes.
use Rattle.std.specs.Prelude.{ℕ, List, codes, if◌then◌else◌, Option, Some, None}
use Rattle.std.specs.Str.{bytes_eq}
use Rattle.sds_types.specs.declared.link.Action.{Action}
use Rattle.sds_types.specs.declared.link.Action.TheVariants as action
use Rattle.sds_types.specs.declared.channel.Algorithm.{Algorithm}
use Rattle.sds_types.specs.declared.channel.Algorithm.TheVariants as algorithm
use Rattle.sds_types.specs.declared.router.RouterKind.{RouterKind}
use Rattle.sds_types.specs.declared.router.RouterKind.TheVariants as router_kind
use Rattle.sds_types.specs.declared.transform.Point.{Point}
use Rattle.sds_types.specs.declared.transform.Point.TheVariants as point
use Rattle.sds_types.specs.declared.transform.DeleteAction.{DeleteAction}
use Rattle.sds_types.specs.declared.transform.DeleteAction.TheVariants as delete_action
use Rattle.sds_types.specs.declared.transform.ColumnPolicy.{ColumnPolicy}
use Rattle.sds_types.specs.declared.transform.ColumnPolicy.TheVariants as column_policy
use Rattle.sds_types.specs.declared.transform_column.ColumnKind.{ColumnKind}
use Rattle.sds_types.specs.declared.transform_column.ColumnKind.TheVariants as column_kind
use Rattle.sds_types.specs.declared.conflict.DetectType.{DetectType}
use Rattle.sds_types.specs.declared.conflict.DetectType.TheVariants as detect_type
use Rattle.sds_types.specs.declared.conflict.ResolveType.{ResolveType}
use Rattle.sds_types.specs.declared.conflict.ResolveType.TheVariants as resolve_type

abbrev pub action_of : List ℕ → Option Action
action_of word = if bytes_eq word (codes "P") then Some action.P else (if bytes_eq word (codes "W") then Some action.W else None)

abbrev pub algorithm_of : List ℕ → Option Algorithm
algorithm_of word = if bytes_eq word (codes "default") then Some algorithm.Default
    else (if bytes_eq word (codes "transactional") then Some algorithm.Transactional
    else (if bytes_eq word (codes "nontransactional") then Some algorithm.Nontransactional
    else None))

abbrev pub router_kind_of : List ℕ → Option RouterKind
router_kind_of word = if bytes_eq word (codes "default") then Some router_kind.Default
    else (if bytes_eq word (codes "column") then Some router_kind.Column
    else (if bytes_eq word (codes "lookuptable") then Some router_kind.LookupTable
    else (if bytes_eq word (codes "subselect") then Some router_kind.Subselect
    else (None))))

abbrev pub point_of : List ℕ → Option Point
point_of word = if bytes_eq word (codes "EXTRACT") then Some point.Extract
    else (if bytes_eq word (codes "LOAD") then Some point.Load
    else (None))

abbrev pub delete_action_of : List ℕ → Option DeleteAction
delete_action_of word = if bytes_eq word (codes "DEL_ROW") then Some delete_action.DelRow
    else (if bytes_eq word (codes "NONE") then Some delete_action.Nothing
    else (if bytes_eq word (codes "UPDATE_COL") then Some delete_action.UpdateCol
    else (None)))

abbrev pub column_policy_of : List ℕ → Option ColumnPolicy
column_policy_of word = if bytes_eq word (codes "SPECIFIED") then Some column_policy.Specified
    else (if bytes_eq word (codes "IMPLIED") then Some column_policy.Implied
    else (None))

abbrev pub column_kind_of : List ℕ → Option ColumnKind
column_kind_of word = if bytes_eq word (codes "copy") then Some column_kind.Copy
    else (if bytes_eq word (codes "remove") then Some column_kind.Remove
    else (if bytes_eq word (codes "const") then Some column_kind.Const
    else (if bytes_eq word (codes "left") then Some column_kind.Left
    else (if bytes_eq word (codes "substr") then Some column_kind.Substr
    else (if bytes_eq word (codes "valueMap") then Some column_kind.ValueMap
    else (if bytes_eq word (codes "variable") then Some column_kind.Variable
    else (if bytes_eq word (codes "additive") then Some column_kind.Additive
    else (None))))))))

abbrev pub detect_type_of : List ℕ → Option DetectType
detect_type_of word = if bytes_eq word (codes "USE_PK_DATA") then Some detect_type.UsePkData
    else (if bytes_eq word (codes "USE_OLD_DATA") then Some detect_type.UseOldData
    else (if bytes_eq word (codes "USE_CHANGED_DATA") then Some detect_type.UseChangedData
    else (if bytes_eq word (codes "USE_TIMESTAMP") then Some detect_type.UseTimestamp
    else (if bytes_eq word (codes "USE_VERSION") then Some detect_type.UseVersion
    else (None)))))

abbrev pub resolve_type_of : List ℕ → Option ResolveType
resolve_type_of word = if bytes_eq word (codes "FALLBACK") then Some resolve_type.Fallback
    else (if bytes_eq word (codes "IGNORE") then Some resolve_type.Ignore
    else (if bytes_eq word (codes "MANUAL") then Some resolve_type.Manual
    else (if bytes_eq word (codes "NEWER_WINS") then Some resolve_type.NewerWins
    else (None))))
