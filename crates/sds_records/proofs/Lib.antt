-- Lemmas on texts, on places of the configuration and on the keys of rows, and those of the tests.
pub mod Texts
pub mod Numbers
pub mod Words
pub mod Values
pub mod RowsTold
pub mod KeyKinds
pub mod GoodFields
pub mod Telling
pub mod Slashes
pub mod Places
pub mod RowKeys
pub mod Filled
