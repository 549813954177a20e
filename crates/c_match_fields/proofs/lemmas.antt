pub mod FieldBits
pub mod UnitWords
pub mod SetFields
pub mod FieldStores
pub mod RaisedBits
pub mod KnownFields
