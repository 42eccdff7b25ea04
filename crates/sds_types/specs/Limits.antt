-- The limits of symds, each with its unit. They are symds' own.
use Rattle.std.specs.Prelude.{ℕ, ◌^◌}

-- THE CONFIGURATION: entries of a section, and what an entry may say
abbrev pub most_config_bytes : ℕ
most_config_bytes = 1048576

abbrev pub most_groups : ℕ
most_groups = 32

abbrev pub most_links : ℕ
most_links = 64

abbrev pub most_channels : ℕ
most_channels = 32

abbrev pub most_tables : ℕ
most_tables = 64

abbrev pub most_triggers : ℕ
most_triggers = 64

abbrev pub most_routers : ℕ
most_routers = 256

abbrev pub most_trigger_routers : ℕ
most_trigger_routers = 1024

abbrev pub most_transforms : ℕ
most_transforms = 256

abbrev pub most_conflicts : ℕ
most_conflicts = 256

-- columns of a table
abbrev pub most_columns : ℕ
most_columns = 64

-- columns of a transform, and those of them that are keys of the made row
abbrev pub most_transform_columns : ℕ
most_transform_columns = 64

abbrev pub most_transform_keys : ℕ
most_transform_keys = 32

-- characters of the expression of a transform's column
abbrev pub most_expression_characters : ℕ
most_expression_characters = 2000

-- the multiplier of an additive column, on either side of 0
abbrev pub most_multiplier : ℕ
most_multiplier = 1000000

abbrev pub most_processing_order : ℕ
most_processing_order = 1000000

-- changes that make a batch full, and batches that a message takes of a channel
abbrev pub most_batch_size : ℕ
most_batch_size = 10000

abbrev pub most_name_characters : ℕ
most_name_characters = 50

-- KINDS: characters of a text, bytes, digits after the point, and the widths of a table's columns together
abbrev pub most_varchar_characters : ℕ
most_varchar_characters = 2000

abbrev pub most_varbinary_bytes : ℕ
most_varbinary_bytes = 4000

abbrev pub most_decimal_digits : ℕ
most_decimal_digits = 9

abbrev pub most_table_width : ℕ
most_table_width = 16000

-- A NODE: its peers, the rows of all its tables, the rows of a write, the changes that wait to be routed
abbrev pub most_peers : ℕ
most_peers = 1000

abbrev pub most_rows : ℕ
most_rows = 200000

abbrev pub most_write_rows : ℕ
most_write_rows = 10000

abbrev pub most_unrouted_changes : ℕ
most_unrouted_changes = 100000

-- numbers of acts, changes, transactions and batches
abbrev pub most_count : ℕ
most_count = 2 ^ 62

-- TEXTS, in bytes: a line, a scenario, a document or another input, a channel's part of a message
abbrev pub most_line_bytes : ℕ
most_line_bytes = 1048576

abbrev pub most_input_bytes : ℕ
most_input_bytes = 1073741824

abbrev pub most_part_bytes : ℕ
most_part_bytes = 16777216
