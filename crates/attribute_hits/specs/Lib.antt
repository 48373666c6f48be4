-- The hits of an element's attributes on the open selections, in the order to read: all scopes; one scope, one field, one attribute; computed examples.
pub mod AttributeHits
pub mod Steps
pub mod Examples
